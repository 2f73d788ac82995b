-- `colours::pages::layout` meets its contract: each return has the tests that led there. The page fits, since 16 times
-- an index does.
use Prim.Native.Nat.{◌*◌, ◌/◌, ◌%◌, ◌≤◌}
use native.Mathlib.Nat.{div-le_self, mod-lt, mul-le-mul}
use native.Mathlib.Omega.{arith}
use mathlib.Core.Bool.{true}
use mathlib.Core.Path.{◌≡◌, sym, ◌∙◌}
use borrow.Author.Tests.{le-ltb}
use lib.Count.{ones}
use Rattle.refusal.specs.Reply.{unless}
use Rattle.colours.specs.Cache.{is_colour_count}
use Rattle.colours.specs.Sets.{is_colour_set}
use Rattle.colours.specs.Pages.{layout_reply, layout_page}
use Rattle.colours.proofs.Ranges.{count_range, ColourSet, colour_set_lem, colour_lt}
use Rattle.colours.proofs.pages.layout.Goals as goal
use Rattle.colours.proofs.pages.layout.Goals.{Else-not-is_colour_count, Else-not-is_colour_set}

passes_2 : (c : Else-not-is_colour_count) → is_colour_count c.args.colours ≡ true
passes_2 c = sym c.is_colour_count.ensures ∙ c.if-not-is_colour_count.false

passes_9 : (c : Else-not-is_colour_set) → is_colour_set c.args.colours c.args.set ≡ true
passes_9 c = sym c.is_colour_set.ensures ∙ c.if-not-is_colour_set.false

set_of : (c : Else-not-is_colour_set) → ColourSet c.args.colours c.args.set
set_of c = colour_set_lem _ _ (passes_9 c)

-- the pages before the row of colours in which the index falls
high_le : (c : Else-not-is_colour_count) → c.args.index / ones c.args.set * c.args.colours ≤ c.args.index * 16
high_le c = mul-le-mul (div-le_self c.args.index (ones c.args.set)) (count_range _ (passes_2 c)).1

pub nonzero_rem-index : goal.nonzero_rem-index
nonzero_rem-index c = (set_of (goal.at.nonzero_rem-index c).Else-not-is_colour_set).size_pos

pub colour_at-colour-requires : goal.colour_at-colour-requires
colour_at-colour-requires c = omega (arith, count_range _ (passes_2 (goal.at.colour_at-colour-requires c).Else-not-is_colour_count))

pub nonzero_div-result : goal.nonzero_div-result
nonzero_div-result c = (set_of (goal.at.nonzero_div-result c).Else-not-is_colour_set).size_pos

pub overflow_mul-result : goal.overflow_mul-result
overflow_mul-result c = omega (arith, high_le (goal.at.overflow_mul-result c).Else-not-is_colour_count)

pub overflow_add-result : goal.overflow_add-result
overflow_add-result c =
    let k = goal.at.overflow_add-result c in
    let a = c.args in
    let s = set_of k.Else-not-is_colour_set in
    omega
    (arith, high_le k.Else-not-is_colour_count, c.colour_at-colour.ensures, colour_lt s (a.index % ones a.set) (mod-lt a.index s.size_pos), count_range _ (passes_2 k.Else-not-is_colour_count))

pub returns : goal.returns
unfolding layout_reply unless layout_page
returns c =
    let k = goal.at.returns c in
    simp (passes_2 k.Else-not-is_colour_count, passes_9 k.Else-not-is_colour_set, le-ltb _ _ c.if-index-gt-LAST_INDEX.false, c.colour_at-colour.ensures)
