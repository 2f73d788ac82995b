-- `choice::lane_sums::Colour::least_of` meets its contract. The invariant: the lowest frame of the lanes passed (`LaneLoops`).
use Rattle.std.proofs.Common.{◌-◌, ◌≤◌}
use Rattle.choice.proofs.LaneLoops.{FrameSought}
use Rattle.choice.proofs.lane_sums.Colour.least_of.Given as goal

abbrev pub invariant-loop-lane : goal.invariant-loop-lane
invariant-loop-lane l = (l.lane ≤ 32) × FrameSought l.self.count l.self.number l.lanes l.frames l.lane l.least

abbrev pub decreases-loop-lane : goal.decreases-loop-lane
decreases-loop-lane l = 32 - l.lane
