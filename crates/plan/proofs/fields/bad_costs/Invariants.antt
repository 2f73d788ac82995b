-- `plan::fields::bad_costs` meets its contract. The invariant: whether a cost is at fault is asked from `k` on, and `before` is the cost before or the limit.
use Rattle.std.proofs.Common.{◌≡◌, ◌-◌, ◌<◌, ◌≤◌}
use Rattle.lists.specs.Range.{from, any_of}
use Rattle.lists.proofs.RangeLoops.{any_ahead}
use Rattle.rows.specs.RowWords.{cost_with}
use Rattle.plan.specs.Tests.{bad_cost}
use Rattle.plan.proofs.fields.bad_costs.Given as goal

abbrev pub invariant-loop-k : goal.invariant-loop-k
invariant-loop-k l =
    (1 ≤ l.k) × (l.k ≤ 17) × (any_of (bad_cost l.tasks l.row) (from 1 16) ≡ any_ahead (bad_cost l.tasks l.row) l.k 17)
    × (l.before ≤ 1000000) × (l.k ≡ 1 → l.before ≡ 1000000) × (1 < l.k → l.before ≡ cost_with l.tasks l.row (l.k - 1))
