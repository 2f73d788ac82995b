-- `text::write_refused` meets its contract: one line, in front of what was there.
use Prim.Native.Nat.{◌≤◌}
use native.Mathlib.Omega.{arith}
use mathlib.Core.Path.{refl}
use Rattle.text.specs.Text.{refused_name}
use Rattle.text.proofs.Decimal.{decimal_short}
use Rattle.text.proofs.Lines.{line_size}
use Rattle.text.proofs.Writing.{wrote_length, wrote_over}
use Rattle.text.proofs.write_refused.Goals as goal
use Rattle.text.proofs.write_refused.Goals.{After-line}

-- the line ends within the text
short : (c : After-line) → c.line.new.self.end ≤ 30
short c =
    let a = c.args in
    omega (arith, c.line.ensures.end_after, line_size refused_name a.number a.row, decimal_short a.number c.ranges.number.fits, decimal_short a.row c.ranges.row.fits)

pub overflow_cast-result : goal.overflow_cast-result
overflow_cast-result c = omega (arith, short (goal.at.overflow_cast-result c).After-line)

pub returns : goal.returns
returns c =
    let w = c.line.ensures in
    let low = short (goal.at.returns c).After-line in
    record { holds = (omega (arith, w.end_after), omega (arith, low, wrote_length w), wrote_over w refl (omega (arith, low, w.end_after))) }
