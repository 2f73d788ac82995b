-- The first microsecond from 1 to a bound that passes a test, or none: document 01, "Task time" and "VCPU time".
use Rattle.std.specs.Prelude.{ℕ, zero, suc, ◌≤◌, Bool, if◌then◌else◌}

pub data Time : Type 0 where
  At : ℕ → Time
  Late : Time

-- of the n microseconds from t on
unfoldable pub first_from : (ℕ → Bool) → ℕ → ℕ → Time
first_from ok zero t = Late
first_from ok (suc n) t = let later = first_from ok n (suc t) in if ok t then At t else later

unfoldable pub first_time : (ℕ → Bool) → ℕ → Time
first_time ok bound = first_from ok bound 1

-- the second time is no later than the first; late is later than any time
abbrev pub NoLater : Time → Time → Type 0
NoLater Late b = Unit {0}
NoLater (At t) (At s) = s ≤ t
NoLater (At t) Late = ⊥
