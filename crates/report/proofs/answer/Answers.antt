-- `report::answer` meets its contract: the bytes that were kept are as many as were read, or all, and the buffer is long enough.
use native.Mathlib.Omega.{arith}
use mathlib.Core.Path.{sym, ap, ◌∙◌}
use lib.ListN.{length}
use Rattle.report.specs.Report.{text_of}
use Rattle.report.proofs.LongInputs.{kept_tells}
use Rattle.report.proofs.answer.Goals as goal

pub returns-clause-by_index : goal.returns-clause-by_index
returns-clause-by_index c = λ whole e. sym (kept_tells (length c.args.input.now) whole (omega arith)) ∙ ap text_of e
