-- Replies and refusals: document 01, "Refusals in the order tested". A call has a list of tests in that order. The first test that
-- fails refuses with its number and row; where none fails the answer stands.
use Rattle.std.specs.Prelude.{ℕ, Bool, true, not, ◌&&◌, List, [], ◌∷◌, map, if◌then◌else◌}
use Rattle.lists.specs.Range.{upto}

-- what a call gives back: its answer, or the number and row of a refusal
pub data Reply (A : Type 0) : Type 0 where
  Answers : A → Reply A
  Refuses : ℕ → ℕ → Reply A

-- a refusal's number, the row that it names, and whether the input is at fault
pub record Test : Type 0 where
  pub number : ℕ
  pub row : ℕ
  pub fails : Bool

-- a test whose row is 0
abbrev pub test : ℕ → Bool → Test
test n f = record { number = n; row = 0; fails = f }

-- one test for each of the first n domains or rows, the lowest first: its row is the domain or row
unfoldable pub each : ℕ → ℕ → (ℕ → Bool) → List Test
each n number fails = map (λ (r : ℕ). record { number = number; row = r; fails = fails r }) (upto n)

-- the answer stands unless a test fails, and then the first that does refuses
unfoldable pub unless : {A : Type 0} → List Test → A → Reply A
unless [] a = Answers a
unless (t ∷ ts) a = let rest = unless ts a in if t.fails then Refuses t.number t.row else rest

-- the reply of tests and of one more behind them
unfoldable pub also : {A : Type 0} → Reply A → Test → Reply A
also (Answers a) t = if t.fails then Refuses t.number t.row else Answers a
also (Refuses n r) t = Refuses n r

-- no test fails
unfoldable pub passes : List Test → Bool
passes [] = true
passes (t ∷ ts) = not t.fails && passes ts
