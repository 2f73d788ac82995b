-- `text::Writer::line` meets its contract: the parts of a line, one after another.
use native.Mathlib.Omega.{arith}
use Rattle.text.specs.Text.{line}
use Rattle.text.proofs.Decimal.{decimal_short}
use Rattle.text.proofs.Writing.{wrote_append, wrote_length}
use Rattle.text.proofs.Writer.line.Goals as goal

pub bytes-requires-2 : goal.bytes-requires-2
bytes-requires-2 c =
    omega (arith, decimal_short c.args.a c.ranges.a.fits, wrote_length c.bytes.ensures, wrote_length c.decimal.ensures)

pub decimal-requires-2 : goal.decimal-requires-2
decimal-requires-2 c =
    omega (arith, decimal_short c.args.a c.ranges.a.fits, decimal_short c.args.b c.ranges.b.fits, wrote_length c.bytes.ensures, wrote_length c.decimal.ensures, wrote_length c.bytes-2.ensures)

pub bytes-requires-3 : goal.bytes-requires-3
bytes-requires-3 c =
    omega (arith, decimal_short c.args.a c.ranges.a.fits, decimal_short c.args.b c.ranges.b.fits, wrote_length c.bytes.ensures, wrote_length c.decimal.ensures, wrote_length c.bytes-2.ensures, wrote_length c.decimal-2.ensures)

pub returns : goal.returns
unfolding line
returns c =
    wrote_append (rw c.as_bytes.ensures.value at c.bytes.ensures)
    (wrote_append c.decimal.ensures (wrote_append c.bytes-2.ensures (wrote_append c.decimal-2.ensures c.bytes-3.ensures)))
