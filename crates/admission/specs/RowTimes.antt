-- The times of rows and their rounds, in their order up to the first that is late (document 01, refusals 21 and 22): in 48 words each, after those known.
use Rattle.std.specs.Prelude.{ℕ, ◌+◌, List, ◌++◌, map, ◌≡◌, length, take, Option, None, Some}
use Rattle.lists.specs.Range.{upto, lowest_below}
use Rattle.times.specs.FirstTime.{Time}
use Rattle.admission.specs.Admission.{is_late, microseconds}
use Rattle.admission.specs.declared.row_times.RowTimes.{RowTimes}

-- room for the rows of any plan
pub record Roomy (kept : RowTimes) : Type 0 where
  pub times : 48 ≡ length kept.times
  pub rounds : 48 ≡ length kept.rounds

-- the numbers of the first rows, in 48 words after the first that are known
pub record Recorded (number : ℕ → ℕ) (first : ℕ) (known : List ℕ) (rows : ℕ) (kept : List ℕ) : Type 0 where
  pub front : take (first + rows) kept ≡ take first known ++ map number (upto rows)
  pub room : 48 ≡ length kept

-- how many of n rows are passed: those before the first that is late, or all
abbrev pub rows_passed : ℕ → Option ℕ → ℕ
rows_passed n (Some i) = i
rows_passed n None = n

-- the search of n rows ended at the first that is late, if one is, and has kept the times and rounds of those passed
pub record Timed (time : ℕ → Time) (taken : ℕ → ℕ) (n first : ℕ) (known : RowTimes) (late : Option ℕ) (kept : RowTimes) : Type 0 where
  pub late_lem : late ≡ lowest_below (λ (i : ℕ). is_late (time i)) n
  pub times : Recorded (λ (i : ℕ). microseconds (time i)) first known.times (rows_passed n late) kept.times
  pub counts : Recorded taken first known.rounds (rows_passed n late) kept.rounds
