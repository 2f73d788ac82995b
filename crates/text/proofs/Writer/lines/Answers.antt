-- `text::Writer::lines` meets its contract: the lines of the rows so far are written.
use native.Mathlib.Nat.{zero-add}
use native.Mathlib.Omega.{arith}
use mathlib.Core.Path.{◌≡◌}
use lib.ListN.{length, get_or}
use lib.Seq.{take-length}
use Rattle.text.specs.Text.{lines_from}
use Rattle.text.proofs.Decimal.{decimal_length, decimal_short}
use Rattle.text.proofs.Lines.{line_size, lines_more}
use Rattle.text.proofs.Writing.{wrote_none, wrote_append}
use Rattle.text.proofs.Writer.lines.Goals as goal

pub loop-row-init : goal.loop-row-init
unfolding lines_from
loop-row-init c = (wrote_none c.args.self.now, omega arith)

pub loop-row-preserved : goal.loop-row-preserved
loop-row-preserved c =
    let name = c.args.name.now in
    let times = c.args.times.now in
    let row = c.loop-row.row in
    let w = c.loop-row.invariant in (
      rw (lines_more name times 0 row (omega arith), zero-add row) (wrote_append w.0 c.line.ensures),
      omega (arith, c.requires, w.1, c.line.ensures.end_after, line_size name row (get_or times row 0), decimal_length 1 row (omega (arith, c.requires)), decimal_short (get_or times row 0) (omega (arith, c.type_inv.times row))),
    )

pub returns-clause-all : goal.returns-clause-all
returns-clause-all c =
    let all : c.loop-row.row ≡ length c.args.times.now = omega arith in
    rw (all, take-length c.args.times.now) at c.loop-row.invariant.0
