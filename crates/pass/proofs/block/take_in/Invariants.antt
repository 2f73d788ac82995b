-- `pass::block::take_in` meets its contract. The invariant: the block has the words passed, the domain's are counted, and one of them matters, or it is
-- asked of those ahead.
use mathlib.Core.List.{◌++◌}
use mathlib.Core.Path.{◌≡◌}
use lib.ListN.{length, take, drop}
use Rattle.lists.proofs.RangeLoops.{Asked}
use Rattle.tally.specs.Tally.{is_own}
use Rattle.pass.specs.Steps.{matters}
use Rattle.pass.proofs.BlockLoops.{Counted}
use Rattle.pass.proofs.block.take_in.Given as goal

abbrev pub invariant-loop-i : goal.invariant-loop-i
invariant-loop-i l =
    (length l.block ≡ 16)
    × (l.block ≡ take l.i l.words ++ drop l.i l.initial.block)
    × Counted (is_own l.own.first) l.initial.held l.words l.held l.i
    × Asked (matters l.words l.word l.free) (length l.words) l.i l.stop
