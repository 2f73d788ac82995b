-- `choice::lane_sums::sum_side` meets its contract. The invariant: what is summed up, with the lanes ahead.
use Rattle.std.proofs.Common.{ℕ}
use Rattle.table_words.specs.Sets.{masked_in}
use Rattle.choice.specs.LaneSums.{side_of}
use Rattle.choice.proofs.LaneLoops.{LaneSum}
use Rattle.choice.proofs.lane_sums.sum_side.Given as goal

abbrev pub invariant-loop-lane : goal.invariant-loop-lane
invariant-loop-lane l = LaneSum (λ (i : ℕ). side_of l.fn.inside (masked_in l.fn.colours l.fn.set i)) l.lanes l.lane l.sum
