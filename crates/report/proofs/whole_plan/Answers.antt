-- `report::whole_plan` meets its contract: the plan in front of the input ends with it, or goes on, or is none.
use Rattle.std.proofs.Common.{sym}
use Rattle.report.proofs.Verdict.{ends, goes_on, no_extent}
use Rattle.report.proofs.whole_plan.Goals as goal

pub returns-in_default : goal.returns-in_default
returns-in_default c = no_extent c.args.input.now _ _ (sym c.in_default.ensures)

pub returns-then-input-words : goal.returns-then-input-words
returns-then-input-words c = ends c.args.input.now _ (sym c.in-Ok.ensures) c.if-input-words.true

pub returns-else-input-words : goal.returns-else-input-words
returns-else-input-words c = goes_on c.args.input.now _ (sym c.in-Ok.ensures) c.if-input-words.false
