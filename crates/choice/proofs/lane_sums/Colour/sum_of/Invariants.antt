-- `choice::lane_sums::Colour::sum_of` meets its contract. The invariant: what is summed up, with the lanes of the colour ahead.
use Rattle.std.proofs.Common.{◌-◌, ◌≤◌}
use Rattle.choice.proofs.LaneLoops.{ColourSum}
use Rattle.choice.proofs.lane_sums.Colour.sum_of.Given as goal

abbrev pub invariant-loop-lane : goal.invariant-loop-lane
invariant-loop-lane l = (l.lane ≤ 32) × ColourSum l.self.count l.self.number l.lanes l.lane l.sum

abbrev pub decreases-loop-lane : goal.decreases-loop-lane
decreases-loop-lane l = 32 - l.lane
