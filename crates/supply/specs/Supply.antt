-- The least supply of a periodic resource of period P and budget Q (document 01; Shin and Lee 2003). A difference of naturals stops at 0.
use Rattle.std.specs.Prelude.{ℕ, ◌+◌, ◌-◌, ◌*◌, ◌/◌, ◌%◌, ◌<◌, ◌≤◌}

-- with u = t − (P − Q): (u div P) × Q + the larger of 0 and (u mod P) − (P − Q)
unfoldable pub supply : ℕ → ℕ → ℕ → ℕ
supply p q t = let u = t - (p - q) in u / p * q + (u % p - (p - q))

-- the first microsecond in which the supply is x, above 0: two gaps, the budgets before the last unit, and its place in its budget
unfoldable pub first_supply : ℕ → ℕ → ℕ → ℕ
first_supply p q x = 2 * (p - q) + (x - 1) / q * p + (x - 1) % q + 1

-- a budget of 1 up to its period
pub record Budget (p q : ℕ) : Type 0 where
  pub some : 0 < q
  pub within : q ≤ p
