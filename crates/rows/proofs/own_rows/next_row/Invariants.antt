-- `rows::own_rows::next_row` meets its contract. The invariant: `at` is where a row begins, and the next row that passes is looked for from there on.
use Rattle.std.proofs.Common.{◌≡◌, Bool, ℕ, ◌*◌, ◌-◌, ◌/◌, ◌≤◌}
use Rattle.lists.specs.Range.{lowest_from}
use Rattle.rows.specs.RowWords.{vcpu_of, task_rows}
use Rattle.rows.proofs.own_rows.next_row.Given as goal

abbrev pub invariant-loop-at : goal.invariant-loop-at
invariant-loop-at g l =
    (l.at ≡ 20 * (l.at / 20)) × (l.at ≤ 20 * l.rows) × (l.rows ≡ task_rows l.tasks)
    × ((p : ℕ → Bool) → ((v : ℕ) (yes : Bool) → goal.F-post g l.passes v yes → yes ≡ p v)
    → lowest_from (λ (j : ℕ). p (vcpu_of l.tasks j)) l.from (task_rows l.tasks) ≡ lowest_from (λ (j : ℕ). p (vcpu_of l.tasks j)) (l.at / 20) (task_rows l.tasks))

abbrev pub decreases-loop-at : goal.decreases-loop-at
decreases-loop-at g l = 20 * l.rows - l.at
