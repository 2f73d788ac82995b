-- `choice::lane_sums::sum_side` meets its contract. The invariant: what is summed up, with the lanes ahead.
use Rattle.std.proofs.Common.{sym, ◌∙◌, arith}
use Rattle.choice.proofs.LaneLoops.{sum_start, sum_add, sum_skip, sum_end}
use Rattle.choice.proofs.lane_sums.sum_side.Goals as goal
use Rattle.choice.proofs.lane_sums.sum_side.Goals.{then-on_side, else-on_side}

pub loop-lane-init : goal.loop-lane-init
loop-lane-init c = sum_start _ _

pub loop-lane-preserved : goal.loop-lane-preserved
loop-lane-preserved c =
    let v = c.loop-lane.invariant in
    let l = c.loop-lane-test.true in
    elim c.if-on_side.branch [
      | then-on_side w ↦ rw (w.sum-is, w.from-sum.ensures) (sum_add _ _ v l (omega (arith, w.from-sum.ensures, w.from-sum.type_inv)) (sym c.on_side.ensures ∙ w.if-on_side.true))
      | else-on_side w ↦ rw w.sum-is (sum_skip _ _ v l (sym c.on_side.ensures ∙ w.if-on_side.false))
    ]

pub returns : goal.returns
returns c = sum_end _ _ c.loop-lane.invariant (omega arith)
