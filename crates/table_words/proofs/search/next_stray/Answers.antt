-- `table_words::search::next_stray` meets its contract. The invariant: the frame sought is sought from `f` on.
use Rattle.std.proofs.Common.{◌≡◌, ◌+◌, ◌-◌, length, sym, ◌∙◌, arith}
use Rattle.lists.proofs.RangeLoops.{sought_hit, sought_miss, sought_end}
use Rattle.table_words.proofs.search.next_stray.Goals as goal

pub returns-then-is_among : goal.returns-then-is_among
returns-then-is_among c = sym (c.loop-f.invariant.2 ∙ sought_hit _ _ _ (omega arith) (sym c.is_among.ensures ∙ c.if-is_among.true))

pub loop-f-preserved : goal.loop-f-preserved
loop-f-preserved c = (omega arith, omega arith, c.loop-f.invariant.2 ∙ sought_miss _ _ _ (omega arith) (sym c.is_among.ensures ∙ c.if-is_among.false))

pub returns : goal.returns
returns c =
    let h = c.loop-f in
    let a = c.args in
    let all : h.f ≡ a.start + (length a.table.now - a.start) = omega arith in
    all ∙ sym (h.invariant.2 ∙ sought_end _ _ _ (omega arith))
