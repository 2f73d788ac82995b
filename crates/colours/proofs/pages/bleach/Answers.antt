-- `colours::pages::bleach` meets its contract: each return has the tests that led there. The index fits,
-- since no index exceeds its page.
use Prim.Native.Nat.{ℕ, ◌%◌, ◌<◌, ◌≤◌}
use native.Mathlib.Nat.{mod-lt}
use native.Mathlib.Omega.{arith}
use mathlib.Core.Bool.{true}
use mathlib.Core.Path.{◌≡◌, sym, ◌∙◌}
use borrow.Author.Tests.{le-ltb}
use Rattle.refusal.specs.Reply.{unless}
use Rattle.colours.specs.Cache.{is_colour_count}
use Rattle.colours.specs.Sets.{is_colour_set}
use Rattle.colours.specs.Pages.{bleach_reply, bleach_index}
use Rattle.colours.proofs.Ranges.{count_range, own_colour, colour_set_lem, bleach_le}
use Rattle.colours.proofs.pages.bleach.Goals as goal
use Rattle.colours.proofs.pages.bleach.Goals.{Else-not-is_colour_count, Else-not-is_colour_set}

passes_2 : (c : Else-not-is_colour_count) → is_colour_count c.args.colours ≡ true
passes_2 c = sym c.is_colour_count.ensures ∙ c.if-not-is_colour_count.false

passes_9 : (c : Else-not-is_colour_set) → is_colour_set c.args.colours c.args.set ≡ true
passes_9 c = sym c.is_colour_set.ensures ∙ c.if-not-is_colour_set.false

-- the page's colour is below N, and so below 32
colour_of : (c : Else-not-is_colour_count) (p : ℕ) → (0 < c.args.colours) × (p % c.args.colours < 32)
colour_of c p =
    let n : ℕ = c.args.colours in
    let r = count_range n (passes_2 c) in
    (omega arith, omega (arith, mod-lt p {m = n} (omega arith)))

-- no index exceeds its page
index_le : (n set page : ℕ) → is_colour_set n set ≡ true → 0 < n → bleach_index n set page ≤ page
index_le n set page fine some = bleach_le (colour_set_lem _ _ fine) _ some

pub nonzero_rem-colour : goal.nonzero_rem-colour
nonzero_rem-colour c = (colour_of (goal.at.nonzero_rem-colour c).Else-not-is_colour_count 0).0

-- the page's colour is in the set or not, as asked
pub returns-then-not-has_colour : goal.returns-then-not-has_colour
unfolding bleach_reply unless
returns-then-not-has_colour c =
    let k = goal.at.returns-then-not-has_colour c in
    let asked = sym (own_colour c.args.set _ (colour_of k.Else-not-is_colour_count c.args.page).1) ∙ sym c.has_colour.ensures in
    simp
    (passes_2 k.Else-not-is_colour_count, passes_9 k.Else-not-is_colour_set, le-ltb _ _ c.if-page-gt-LAST_BLEACHED.false, asked ∙ c.if-not-has_colour.true)

pub nonzero_div-result : goal.nonzero_div-result
nonzero_div-result c = (colour_of (goal.at.nonzero_div-result c).Else-not-is_colour_count 0).0

pub overflow_mul-result : goal.overflow_mul-result
unfolding bleach_index
overflow_mul-result c =
    let k = goal.at.overflow_mul-result c in
    omega (arith, index_le _ c.args.set c.args.page (passes_9 k.Else-not-is_colour_set) (colour_of k.Else-not-is_colour_count 0).0)

pub place_of-requires : goal.place_of-requires
place_of-requires c = (colour_of (goal.at.place_of-requires c).Else-not-is_colour_count _).1

pub overflow_add-result : goal.overflow_add-result
unfolding bleach_index
overflow_add-result c =
    let k = goal.at.overflow_add-result c in
    omega (arith, index_le _ c.args.set c.args.page (passes_9 k.Else-not-is_colour_set) (colour_of k.Else-not-is_colour_count 0).0, c.place_of.ensures)

pub returns : goal.returns
unfolding bleach_reply unless bleach_index
returns c =
    let k = goal.at.returns c in
    let asked = sym (own_colour c.args.set _ (colour_of k.Else-not-is_colour_count c.args.page).1) ∙ sym c.has_colour.ensures in
    simp
    (passes_2 k.Else-not-is_colour_count, passes_9 k.Else-not-is_colour_set, le-ltb _ _ c.if-page-gt-LAST_BLEACHED.false, asked ∙ c.if-not-has_colour.false, c.place_of.ensures)
