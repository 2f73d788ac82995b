-- `pass::block::note` meets its contract. The invariant: the free frames passed are noted.
use mathlib.Core.Path.{◌≡◌}
use lib.ListN.{length}
use Rattle.pass.proofs.BlockLoops.{BlockNoted}
use Rattle.pass.proofs.block.note.Given as goal

abbrev pub invariant-loop-i : goal.invariant-loop-i
invariant-loop-i l = (length l.block ≡ 16) × BlockNoted l.initial.next l.taken l.block l.next l.i
