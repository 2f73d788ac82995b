-- `pass::lanes::count_lanes` meets its contract, by the laws of a survey under way (`BlockSequence`, `SurveyInvariant`).
use Prim.Native.Nat.{◌*◌}
use Rattle.pass.specs.Steps.{is_free}
use Rattle.tally.specs.Tally.{is_own}
use Rattle.pass.proofs.BlockSequence.{AtTurn}
use Rattle.pass.proofs.SurveyInvariant.{Tallied}
use denote.Param.{number}
use Rattle.pass.specs.contracts.lanes.count_lanes.{FREE-type}
use Rattle.pass.proofs.lanes.count_lanes.Given as goal

abbrev pub invariant-loop-block : goal.invariant-loop-block
invariant-loop-block g l =
    AtTurn l.table l.end (16 * l.block) × Tallied (is_own l.own.first) l.table l.held (16 * l.block) × Tallied (is_free (FREE-type (number g.row.FREE))) l.table l.free (16 * l.block)
