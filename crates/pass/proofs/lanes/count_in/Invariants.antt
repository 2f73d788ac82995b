-- `pass::lanes::count_in` meets its contract. The invariant: the words passed are counted.
use Rattle.tally.specs.Tally.{is_own}
use Rattle.pass.specs.Steps.{is_free}
use Rattle.pass.proofs.BlockLoops.{Counted}
use denote.Param.{number}
use Rattle.pass.specs.contracts.lanes.count_in.{FREE-type}
use Rattle.pass.proofs.lanes.count_in.Given as goal

abbrev pub invariant-loop-i : goal.invariant-loop-i
invariant-loop-i g l = Counted (is_own l.own.first) l.initial.held l.words l.held l.i × Counted (is_free (FREE-type (number g.row.FREE))) l.initial.free l.words l.free l.i
