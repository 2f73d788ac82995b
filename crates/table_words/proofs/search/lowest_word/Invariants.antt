-- `table_words::search::lowest_word` meets its contract. The invariant: the frame sought is sought from `f` on.
use Rattle.std.proofs.Common.{length}
use Rattle.lists.specs.Range.{is_at}
use Rattle.lists.proofs.RangeLoops.{Seeking}
use Rattle.table_words.proofs.search.lowest_word.Given as goal

abbrev pub invariant-loop-f : goal.invariant-loop-f
invariant-loop-f l = Seeking (is_at l.table l.word) 0 (length l.table) l.f
