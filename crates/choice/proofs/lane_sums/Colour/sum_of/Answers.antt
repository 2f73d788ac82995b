-- `choice::lane_sums::Colour::sum_of` meets its contract. The invariant: what is summed up, with the lanes of the colour ahead.
use Rattle.std.proofs.Common.{arith}
use Rattle.choice.proofs.LaneLoops.{colour_start, colour_add, colour_end}
use Rattle.choice.proofs.lane_sums.Colour.sum_of.Goals as goal

pub loop-lane-init : goal.loop-lane-init
loop-lane-init c =
    let s = c.args.self in
    (omega (arith, s.below, s.few), colour_start _ _ _ s.below (omega (arith, s.below, s.few)))

pub loop-lane-preserved : goal.loop-lane-preserved
loop-lane-preserved c =
    let s = c.args.self in
    (omega (arith, s.few), rw c.from-sum.ensures (colour_add _ _ _ s.below c.loop-lane.invariant.1 c.loop-lane-test.true (omega (arith, c.loop-lane-test.element_fits))))

pub returns : goal.returns
returns c =
    let v = c.loop-lane.invariant in
    (colour_end _ _ _ c.args.self.below v.1 (omega arith), omega (arith, v.0, v.1.summing.few))
