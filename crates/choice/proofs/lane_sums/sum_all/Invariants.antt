-- `choice::lane_sums::sum_all` meets its contract. The invariant: what is summed up, with the lanes ahead.
use Rattle.std.proofs.Common.{ℕ, ltb}
use Rattle.choice.specs.LaneSums.{lanes_of}
use Rattle.choice.proofs.LaneLoops.{LaneSum}
use Rattle.choice.proofs.lane_sums.sum_all.Given as goal

abbrev pub invariant-loop-lane : goal.invariant-loop-lane
invariant-loop-lane l = LaneSum (λ (i : ℕ). ltb i (lanes_of l.fn.colours)) l.lanes l.lane l.sum
