-- `text::Writer::lines` meets its contract: the lines of the rows so far are written.
use Prim.Native.Nat.{◌+◌, ◌*◌, ◌≤◌}
use lib.ListN.{take}
use Rattle.text.specs.Text.{lines_from}
use Rattle.text.specs.Writing.{Wrote}
use Rattle.text.proofs.Writer.lines.Given as goal

abbrev pub invariant-loop-row : goal.invariant-loop-row
invariant-loop-row l =
    Wrote l.initial.self l.self (lines_from l.name 0 (take l.row l.times)) × (l.self.end ≤ l.initial.self.end + 19 * l.row)
