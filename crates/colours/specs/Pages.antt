-- Layout and bleaching: document 01, "Colours of the cache" and refusals 2 and 9 to 11. With them the two shorter forms of bleaching
-- that document 004 gives: dropping colour bits, and its equation (1).
use Rattle.std.specs.Prelude.{ℕ, ◌+◌, ◌-◌, ◌*◌, ◌/◌, ◌%◌, ◌^◌, min, not, [], ◌∷◌, ltb}
use Rattle.std.specs.Int.Count.{ones}
use Rattle.refusal.specs.Reply.{Reply, Test, test, unless}
use Rattle.colours.specs.Sets.{is_colour_set, has, colour_at, place_of}
use Rattle.colours.specs.Cache.{count_test, colour_of}

-- refusal 9: the set is 0 or has a bit at N or above
abbrev pub set_test : ℕ → ℕ → Test
set_test n s = test 9 (not (is_colour_set n s))

-- index i goes to page (i div s) × N + the colour at place (i mod s), s the set's count of ones
unfoldable pub layout_page : ℕ → ℕ → ℕ → ℕ
layout_page n s i = i / ones s * n + colour_at n s (i % ones s)

unfoldable pub layout_reply : ℕ → ℕ → ℕ → Reply ℕ
layout_reply n s i = unless (count_test n ∷ set_test n s ∷ test 10 (ltb (2 ^ 24 - 1) i) ∷ []) (layout_page n s i)

-- page p goes to (p div N) × s + the place of its colour
unfoldable pub bleach_index : ℕ → ℕ → ℕ → ℕ
bleach_index n s p = p / n * ones s + place_of s (colour_of n p)

unfoldable pub bleach_reply : ℕ → ℕ → ℕ → Reply ℕ
bleach_reply n s p =
    unless (count_test n ∷ set_test n s ∷ test 10 (ltb (2 ^ 28 - 1) p) ∷ test 11 (not (has s (colour_of n p))) ∷ [])
    (bleach_index n s p)

-- page p without those of its m lowest bits, the colour bits, that lie above the lowest k
unfoldable pub drop_bits : ℕ → ℕ → ℕ → ℕ
drop_bits m k p = p / 2 ^ m * 2 ^ min k m + p % 2 ^ min k m

-- equation (1) of document 004, page a under the colours l to h of c and the base b, with its factor mended: c − (h − l + 1)
unfoldable pub equation_one : ℕ → ℕ → ℕ → ℕ → ℕ → ℕ
equation_one c l h b a = a - (a - b) / c * (c - (h - l + 1)) - l
