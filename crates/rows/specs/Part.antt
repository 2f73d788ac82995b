-- The part of a VCPU: document 01, from the VCPU's first row up to the next row of another, for any list; words short of a row belong to none.
use Rattle.std.specs.Prelude.{ℕ, ◌-◌, ◌*◌, Bool, not, List, eqb, take, drop}
use Rattle.lists.specs.Range.{lowest_from}
use Rattle.rows.specs.RowWords.{vcpu_of, task_rows}

-- a row of the VCPU
abbrev pub is_row_of : List ℕ → ℕ → ℕ → Bool
is_row_of tasks v j = eqb (vcpu_of tasks j) v

-- the next row of the VCPU from row i on, and of another; the number of rows where there is none
abbrev pub next_own : List ℕ → ℕ → ℕ → ℕ
next_own tasks i v = lowest_from (is_row_of tasks v) i (task_rows tasks)

abbrev pub next_other : List ℕ → ℕ → ℕ → ℕ
next_other tasks i v = lowest_from (λ (j : ℕ). not (is_row_of tasks v j)) i (task_rows tasks)

-- where the part begins and ends, in rows
unfoldable pub part_start : List ℕ → ℕ → ℕ
part_start tasks v = next_own tasks 0 v

unfoldable pub part_end : List ℕ → ℕ → ℕ
part_end tasks v = next_other tasks (part_start tasks v) v

-- the rows from row i up to the next row of another VCPU
unfoldable pub rows_from : List ℕ → ℕ → ℕ → List ℕ
rows_from tasks i v = take (20 * next_other tasks i v - 20 * i) (drop (20 * i) tasks)

unfoldable pub part_of : List ℕ → ℕ → List ℕ
part_of tasks v = rows_from tasks (part_start tasks v) v

-- the same, looked for from row i on
unfoldable pub part_from : List ℕ → ℕ → ℕ → List ℕ
part_from tasks i v = rows_from tasks (next_own tasks i v) v
