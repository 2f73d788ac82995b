-- `colours::cache::cache_colours` meets its contract: two divisions one after the other are the definition's one (`ExactDivision`).
use Prim.Native.Nat.{◌*◌, ◌%◌}
use native.Mathlib.Nat.{pos_of_ne-zero}
use native.Mathlib.Omega.{arith}
use mathlib.Core.Path.{◌≡◌, sym, ◌∙◌}
use borrow.Author.Tests.{ne_eqb}
use Rattle.refusal.specs.Reply.{unless}
use Rattle.colours.specs.Cache.{cache_reply}
use Rattle.colours.proofs.Ranges.{count_high}
use Rattle.colours.proofs.ExactDivision.{two_divisions, exact, inexact_high}
use Rattle.colours.proofs.cache.cache_colours.Goals as goal
use Rattle.colours.proofs.cache.cache_colours.Goals.{Else-is_colour_count, Then-colours-gt16, Then-is_colour_count}

-- the division by the product is exact where both are
divides :
    (c : Then-colours-gt16)
    → c.args.bytes % (c.args.ways * 4096) ≡ 0
divides c =
    let a = c.args in
    exact a.bytes a.ways 4096 (pos_of_ne-zero c.if-ways-eq0.false) (omega arith) c.if-bytes-ne0.false c.if-pages-ways-ne0.false

-- the division by the product is exact where both are
divides_3 :
    (c : Else-is_colour_count)
    → c.args.bytes % (c.args.ways * 4096) ≡ 0
divides_3 c =
    let a = c.args in
    exact a.bytes a.ways 4096 (pos_of_ne-zero c.if-ways-eq0.false) (omega arith) c.if-bytes-ne0.false c.if-pages-ways-ne0.false

pub returns-then-pages-ways-ne0 : goal.returns-then-pages-ways-ne0
unfolding cache_reply unless
returns-then-pages-ways-ne0 c =
    let a = c.args in
    let some = c.if-ways-eq0.false in
    simp (ne_eqb _ _ some, ne_eqb _ _ (inexact_high a.bytes a.ways 4096 (pos_of_ne-zero some) (omega arith) c.if-pages-ways-ne0.true))

pub returns-then-colours-gt16 : goal.returns-then-colours-gt16
unfolding cache_reply unless
returns-then-colours-gt16 c =
    let a = c.args in
    let e = two_divisions a.bytes a.ways 4096 in
    simp (ne_eqb _ _ c.if-ways-eq0.false, divides c, count_high _ (rw e at c.if-colours-gt16.true))

pub returns-else-is_colour_count : goal.returns-else-is_colour_count
unfolding cache_reply unless
returns-else-is_colour_count c =
    let a = c.args in
    let e = two_divisions a.bytes a.ways 4096 in
    simp (ne_eqb _ _ c.if-ways-eq0.false, divides_3 c, rw e at (sym c.is_colour_count.ensures ∙ c.if-is_colour_count.false))
