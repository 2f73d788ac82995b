-- The search for a time by rounds, over any need that never falls and any supply with a first time for each amount: from t on to the first
-- time whose supply covers the need in t. It passes over no time that would do, so what it stops at is the first, and none is missed.
use Rattle.std.specs.Prelude.{if◌then◌else◌}
use Prim.Native.Nat.{ℕ, zero, suc, ◌+◌, ◌<◌, ◌≤◌}
use native.Mathlib.Nat.{le_refl, lt_irrefl, le_trans}
use native.Mathlib.Numerals.{add-one}
use native.Mathlib.Omega.{arith}
use mathlib.Core.Bool.{Bool, true, false}
use mathlib.Core.Path.{◌≡◌, sym, ◌∙◌}
use lib.Dec.{leb, ltb}
use borrow.Author.Tests.{le-leb, lt-leb, lt-ltb, le-ltb, ltb-true, ltb-false}
use Rattle.lists.specs.Range.{lowest_from}
use Rattle.lists.proofs.CaseSplits.{cases, below_or_not}
use Rattle.lists.proofs.RangeLoops.{sought_hit, sought_miss, sought_end}
use Rattle.lists.proofs.Searches.{Found, found as lowest-found, missed as None-found, sought_past, sought_is}
use Rattle.times.specs.FirstTime.{At, Late, first_from, first_time}

module _ (ok : ℕ → Bool) where
  -- the first time is the lowest number that passes
  first_lowest : (n i m : ℕ) → i + n ≡ m → first_from ok n i ≡ (if ltb (lowest_from ok i m) m then At (lowest_from ok i m) else Late)
  unfolding first_from
  first_lowest zero i m e = rw (sought_end ok i m (omega arith), le-ltb m m (le_refl m))
  first_lowest (suc n) i m e =
      cases (ok i)
      (λ q. rw (q, sought_hit ok i m (omega arith) q, lt-ltb i m (omega arith)))
      (λ q. rw (q, sought_miss ok i m (omega arith) q, add-one i) (first_lowest n (suc i) m (omega arith)))

  abbrev sought : ℕ → ℕ
  sought bound = lowest_from ok 1 (suc bound)

  by_sought : (bound : ℕ) → first_time ok bound ≡ (if ltb (sought bound) (suc bound) then At (sought bound) else Late)
  unfolding first_time
  by_sought bound = first_lowest bound 1 (suc bound) (omega arith)

  pub first_at : (bound t : ℕ) → 1 ≤ t → t ≤ bound → ((s : ℕ) → 1 ≤ s → s < t → ok s ≡ false) → ok t ≡ true → first_time ok bound ≡ At t
  first_at bound t l h none e =
      by_sought bound ∙ rw (sought_is ok 1 (suc bound) t l (omega arith) e none, lt-ltb t (suc bound) (omega arith))

  pub first_none : (bound : ℕ) → ((s : ℕ) → 1 ≤ s → s ≤ bound → ok s ≡ false) → first_time ok bound ≡ Late
  first_none bound none =
      let over = sought_past ok 1 (suc bound) (suc bound) (omega arith) (le_refl (suc bound)) (λ s a b. none s a (omega arith)) in
      by_sought bound ∙ rw (over, sought_end ok (suc bound) (suc bound) (le_refl (suc bound)), le-ltb (suc bound) (suc bound) (le_refl (suc bound)))

  -- and what an answer says: the time passes and no earlier one does; or none does
  pub told_first : (bound t : ℕ) → first_time ok bound ≡ At t → Found ok 1 (suc bound) t
  told_first bound t e =
      cases (ltb (sought bound) (suc bound))
      (λ q. let same : sought bound ≡ t = cc (rw q at (sym (by_sought bound) ∙ e)) in rw (← same) (lowest-found ok 1 (suc bound) (ltb-true _ _ q)))
      (λ q. absurd (lt_irrefl 0 (let z : ◌≡◌ {A = ℕ} 0 1 = cc (rw q at (sym (by_sought bound) ∙ e)) in omega arith)))

  pub told_none : (bound : ℕ) → first_time ok bound ≡ Late → (s : ℕ) → 1 ≤ s → s ≤ bound → ok s ≡ false
  told_none bound e s a b =
      cases (ltb (sought bound) (suc bound))
      (λ q. absurd (lt_irrefl 0 (let z : ◌≡◌ {A = ℕ} 0 1 = cc (rw q at (sym (by_sought bound) ∙ e)) in omega arith)))
      (λ q. None-found ok 1 (suc bound) (ltb-false _ _ q) s a (omega arith))

-- tests that agree have one first time
pub first_same : (ok ok' : ℕ → Bool) (bound : ℕ) → ((t : ℕ) → ok t ≡ ok' t) → first_time ok bound ≡ first_time ok' bound
first_same ok ok' bound f = λ k. first_time (λ t. f t k) bound

-- a supply with a first time for each amount, and a need that never falls and is never 0
pub record Searchable (sup want first : ℕ → ℕ) : Type 0 where
  pub first_le : (x t : ℕ) → 0 < x → x ≤ sup t → first x ≤ t
  pub le_sup : (x t : ℕ) → 0 < x → first x ≤ t → x ≤ sup t
  pub le_first : (x : ℕ) → 0 < x → x ≤ first x
  pub mono : (s t : ℕ) → s ≤ t → want s ≤ want t
  pub some : (t : ℕ) → 0 < want t

-- no time before t will do
abbrev pub Before : (sup want : ℕ → ℕ) → ℕ → Type 0
Before sup want t = (s : ℕ) → 1 ≤ s → s < t → leb (want s) (sup s) ≡ false

module _ {sup want first : ℕ → ℕ} (r : Searchable sup want first) where
  abbrev covers : ℕ → Bool
  covers t = leb (want t) (sup t)

  pub before_one : Before sup want 1
  before_one s a b = absurd (lt_irrefl s (omega arith))

  -- then none before the first time that covers the need in t
  pub next : (t : ℕ) → Before sup want t → Before sup want (first (want t))
  next t none s a b =
      below_or_not s t (λ l. none s a l)
      (λ l.
      lt-leb (want s) (sup s)
      (below_or_not (sup s) (want s) (λ m. m)
      (λ m. absurd (lt_irrefl s (omega (arith, r.first_le (want t) s (r.some t) (le_trans (r.mono t s l) m)))))))

  -- where the next time is not later, t is the time
  pub found : (bound t : ℕ) → 1 ≤ t → t ≤ bound → Before sup want t → first (want t) ≤ t → first_time covers bound ≡ At t
  found bound t low high none h =
      first_at covers bound t low high none (le-leb (want t) (sup t) (r.le_sup (want t) t (r.some t) h))

  -- where it has come past the bound, there is none
  pub missed : (bound t : ℕ) → bound < t → Before sup want t → first_time covers bound ≡ Late
  missed bound t h none = first_none covers bound (λ s a b. none s a (omega arith))

  -- nor where the need exceeds the bound, since no supply exceeds its time
  pub exceeded : (bound t : ℕ) → 1 ≤ t → Before sup want t → bound < want t → first_time covers bound ≡ Late
  exceeded bound t low none h = missed bound (first (want t)) (omega (arith, r.le_first (want t) (r.some t))) (next t none)
