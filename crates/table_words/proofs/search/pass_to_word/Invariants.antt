-- `table_words::search::pass_to_word` meets its contract. The invariant: the frame sought is sought from the block come to.
use Rattle.std.proofs.Common.{◌≡◌, ◌*◌, ◌/◌, length}
use Rattle.lists.specs.Range.{is_at, lowest, lowest_from}
use Rattle.table_words.proofs.search.pass_to_word.Given as goal

abbrev pub invariant-loop-block : goal.invariant-loop-block
invariant-loop-block l =
    (l.blocks ≡ length l.table / 16) × (lowest (is_at l.table l.word) (length l.table) ≡ lowest_from (is_at l.table l.word) (16 * l.block) (length l.table))
