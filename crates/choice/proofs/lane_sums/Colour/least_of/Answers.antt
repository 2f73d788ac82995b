-- `choice::lane_sums::Colour::least_of` meets its contract. The invariant: the lowest frame of the lanes passed (`LaneLoops`).
use Rattle.std.proofs.Common.{◌<◌, arith}
use Rattle.choice.proofs.LaneLoops.{frame_min, frame_end}
use Rattle.choice.proofs.lane_sums.Colour.least_of.Goals as goal

pub loop-lane-preserved : goal.loop-lane-preserved
loop-lane-preserved c =
    let a = c.args in
    let small : a.frames < 18446744073709551616 = omega (arith, c.ranges.frames) in
    (omega (arith, a.self.few), frame_min _ _ _ a.self.below _ c.loop-lane.invariant.1 c.loop-lane-test.true small (omega (arith, c.loop-lane-test.element_fits)) (omega (arith, c.from.ensures, c.min-least.ensures)))

pub returns : goal.returns
returns c = frame_end _ _ _ c.args.self.below _ c.loop-lane.invariant.1 (omega arith)
