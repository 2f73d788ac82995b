-- `table_words::search::lowest_word` meets its contract. The invariant: the frame sought is sought from `f` on.
use Rattle.std.proofs.Common.{arith, eq-eqb, ne_eqb}
use Rattle.lists.proofs.RangeLoops.{seek_miss}
use Rattle.table_words.proofs.LowestFound.{hit_below, end_below}
use Rattle.table_words.proofs.search.lowest_word.Goals as goal

pub returns-then-table-f : goal.returns-then-table-f
returns-then-table-f c = hit_below _ _ c.loop-f.invariant c.loop-f-test.true (eq-eqb _ _ c.if-table-f.true)

pub loop-f-preserved : goal.loop-f-preserved
loop-f-preserved c = seek_miss _ c.loop-f.invariant c.loop-f-test.true (ne_eqb _ _ c.if-table-f.false)

pub returns : goal.returns
returns c = end_below _ _ c.loop-f.invariant (omega arith)
