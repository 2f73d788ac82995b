-- `pass::lanes::count_own` meets its contract. The invariant: what is counted, with the words ahead.
use Prim.Native.Nat.{ℕ, ◌≤◌}
use native.Mathlib.Omega.{arith}
use mathlib.Core.List.{List}
use mathlib.Core.Path.{ap, ◌∙◌}
use lib.ListN.{length-take}
use Rattle.lists.proofs.RangeLoops.{counting_start, counting_next, counting_end}
use Rattle.pass.specs.Steps.{read, own_in}
use Rattle.pass.proofs.BlockLoops.{one_at_most}
use Rattle.pass.proofs.BlockSequence.{AtTurn, turn_start, to_the_end}
use Rattle.pass.proofs.lanes.count_own.Goals as goal
use Rattle.pass.proofs.lanes.count_own.Goals.{After-words_read-end}

turn : (c : After-words_read-end) → AtTurn c.args.table.now c.words_read-end.result 0
turn c = turn_start _ _ c.words_read-end.ensures

pub slice_bounds-word-items-end : goal.slice_bounds-word-items-end
slice_bounds-word-items-end c = omega (arith, length-take c.words_read-end.result c.args.table.now, (turn c).ends)

pub loop-word-init : goal.loop-word-init
loop-word-init c = counting_start _ _

pub overflow_add-count : goal.overflow_add-count
overflow_add-count c =
    let r = turn (goal.at.overflow_add-count c).After-words_read-end in
    let l = c.loop-word-test.true in
    let one : c.count-count.result ≤ 1 = one_at_most _ _ c.count-count.ensures in
    omega (arith, one, c.loop-word.invariant.few, l, r.ends, length-take c.words_read-end.result c.args.table.now)

pub loop-word-preserved : goal.loop-word-preserved
loop-word-preserved c = rw c.count-count.ensures (counting_next _ c.loop-word.invariant c.loop-word-test.true)

pub returns : goal.returns
unfolding own_in
returns c =
    let t : List ℕ = c.args.table.now in
    counting_end _ c.loop-word.invariant (omega arith)
    ∙ ap (own_in c.new-own.result.first) (to_the_end t (turn (goal.at.returns c).After-words_read-end))
    ∙ ap (λ (n : ℕ). own_in n (read t)) c.new-own.ensures
