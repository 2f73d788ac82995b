-- Layout and bleaching undo each other, for any number of colours and any set of them: a page is a row of N colours and a colour, an
-- index a row of as many places as the set has and a place, and colours and places go to each other.
use Prim.Native.Nat.{ℕ, ◌*◌, ◌/◌, ◌%◌, ◌^◌, ◌<◌}
use native.Mathlib.Nat.{sub-zero, mod-lt, div-add-mod', div-le_self, lt_of_le_of_lt, lt_of_lt_of_le}
use native.Mathlib.Omega.{arith}
use mathlib.Core.Bool.{true}
use mathlib.Core.Path.{◌≡◌}
use lib.Arith.{digits_div, digits_mod, digits_lt}
use lib.Count.{ones}
use Rattle.lists.proofs.PassingNumbers.{count, nth, placed_nth}
use Rattle.colours.specs.Sets.{has, colours_below, colour_at, place_of}
use Rattle.colours.specs.Pages.{layout_page, bleach_index}
use Rattle.colours.proofs.Ranges.{ColourSet, counted, colour_placed, colour_lt}

module _ {n s : ℕ} (set : ColourSet n s) where
  n_pos : 0 < n
  n_pos = lt_of_lt_of_le set.size_pos set.size_le

  place_colour : (j : ℕ) → j < ones s → place_of s (colour_at n s j) ≡ j
  unfolding place_of colours_below count
  place_colour j l = rw sub-zero at (colour_placed set j l).before

  colour_place : (c : ℕ) → c < n → has s c ≡ true → (place_of s c < ones s) × (colour_at n s (place_of s c) ≡ c)
  unfolding place_of colour_at colours_below count nth
  colour_place c l h =
      let r = placed_nth (has s) n 0 c (omega arith) (omega arith) h in
      (rw (counted set) at (rw sub-zero at r.0), rw sub-zero at r.1)

  place_lt : (i : ℕ) → i % ones s < ones s
  place_lt i = mod-lt i set.size_pos

  -- a laid-out page's row and colour
  layout_row : (i : ℕ) → layout_page n s i / n ≡ i / ones s
  unfolding layout_page
  layout_row i = digits_div (i / ones s) (colour_lt set (i % ones s) (place_lt i))

  layout_colour : (i : ℕ) → layout_page n s i % n ≡ colour_at n s (i % ones s)
  unfolding layout_page
  layout_colour i = digits_mod (i / ones s) (colour_lt set (i % ones s) (place_lt i))

  pub has_layout : (i : ℕ) → has s (layout_page n s i % n) ≡ true
  has_layout i = rw (layout_colour i) (colour_placed set (i % ones s) (place_lt i)).passes

  pub bleach_layout : (i : ℕ) → bleach_index n s (layout_page n s i) ≡ i
  unfolding bleach_index
  bleach_layout i = rw (layout_row i, layout_colour i, place_colour (i % ones s) (place_lt i)) (div-add-mod' i (ones s))

  pub layout_bleach : (p : ℕ) → has s (p % n) ≡ true → layout_page n s (bleach_index n s p) ≡ p
  unfolding layout_page bleach_index
  layout_bleach p h =
      let r = colour_place (p % n) (mod-lt p n_pos) h in
      rw (digits_div (p / n) r.0, digits_mod (p / n) r.0, r.1) (div-add-mod' p n)

  -- w bits of index take n times as many pages
  pub layout_lt : (w i : ℕ) → i < 2 ^ w → layout_page n s i < 2 ^ w * n
  unfolding layout_page
  layout_lt w i h = digits_lt (lt_of_le_of_lt (div-le_self i (ones s)) h) (colour_lt set (i % ones s) (place_lt i))
