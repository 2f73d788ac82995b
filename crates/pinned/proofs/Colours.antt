-- Instances of the claims on colours, of N = 16 and N = 8, and of the paper's interval [2, 3].
use Prim.Native.Nat.{ℕ, ◌+◌, ◌*◌}
use native.Mathlib.Omega.{arith}
use mathlib.Core.Bool.{true}
use mathlib.Core.Path.{◌≡◌, refl}
use lib.Bits.{bit_and, bit_or}
use lib.Count.{ones, ones_in}
use Rattle.lists.specs.Range.{from, keep}
use Rattle.refusal.specs.Reply.{Answers, unless}
use Rattle.colours.specs.Sets.{is_colour_set, has, colours_below, place_of, consecutive}
use Rattle.colours.specs.Cache.{is_colour_count, cache_reply, colour_of, page_of}
use Rattle.colours.specs.Pages.{layout_page, layout_reply, bleach_index, bleach_reply, drop_bits, equation_one}
use Rattle.claims.specs.Colours.{ColourClaims}
use Rattle.pinned.proofs.Pinned.{all}

abbrev colours : ColourClaims
colours = all.colours

-- by computation: the sets and N of the instances
premises :
    (is_colour_set 16 0xC ≡ true) × (is_colour_count 16 ≡ true) × (has 0xC (colour_of 16 0x22) ≡ true)
    × (is_colour_set 16 (consecutive 8 4) ≡ true) × (has (consecutive 8 4) (colour_of 16 0x29) ≡ true)
    × (bleach_reply 16 (consecutive 8 4) 0x29 ≡ Answers 9) × (is_colour_set 16 (consecutive 2 2) ≡ true) × (has (consecutive 2 2) (colour_of 16 0x22) ≡ true)
    × (bleach_reply 16 (consecutive 2 2) 0x22 ≡ Answers 4)
unfolding from keep unless is_colour_set is_colour_count has colours_below place_of consecutive bleach_index bleach_reply ones ones_in
premises = (refl, refl, refl, refl, refl, refl, refl, refl, refl)

pub cache_there : cache_reply 1048576 16 ≡ Answers 16
cache_there = (colours.cache_size 1048576 16 16).1 (omega arith, premises.1, refl)

pub cache_back : (n : ℕ) → cache_reply 1048576 16 ≡ Answers n → 1048576 ≡ n * (16 * 4096)
cache_back n e = ((colours.cache_size 1048576 16 n).0 e).2

pub one_set_one_colour : colour_of 16 (page_of 65536) ≡ colour_of 16 (page_of 131072)
one_set_one_colour = colours.one_set_one_colour 16 65536 131072 (omega arith) refl

pub layout_then_bleaching : bleach_index 16 0xC (layout_page 16 0xC 4) ≡ 4
layout_then_bleaching = colours.layout_then_bleaching 16 0xC premises.0 4

pub bleaching_then_layout : layout_page 16 0xC (bleach_index 16 0xC 0x22) ≡ 0x22
bleaching_then_layout = colours.bleaching_then_layout 16 0xC premises.0 0x22 premises.2

pub laid_out_colour : has 0xC (colour_of 16 (layout_page 16 0xC 4)) ≡ true
laid_out_colour = colours.laid_out_colour 16 0xC premises.0 4

pub different_pages : (j : ℕ) → layout_page 16 0xC 4 ≡ layout_page 16 0xC j → 4 ≡ j
different_pages j e = colours.different_pages 16 0xC premises.0 4 j e

pub index_back : (layout_reply 16 0xC 4 ≡ Answers (layout_page 16 0xC 4)) × (bleach_reply 16 0xC (layout_page 16 0xC 4) ≡ Answers 4)
index_back = colours.index_back 16 0xC premises.0 premises.1 4 (omega arith)

pub page_back : (bleach_reply 16 0xC 0x22 ≡ Answers (bleach_index 16 0xC 0x22)) × (layout_reply 16 0xC (bleach_index 16 0xC 0x22) ≡ Answers 0x22)
unfolding from keep has colours_below place_of bleach_index ones ones_in
page_back = colours.page_back 16 0xC premises.0 premises.1 0x22 (omega arith) premises.2 (omega arith)

pub consecutive_colours : has (consecutive 8 4) 9 ≡ true
consecutive_colours = colours.consecutive_colours 8 4 9

pub aligned_drops_bits : bleach_index 16 (consecutive 8 4) 0x29 ≡ drop_bits 4 2 0x29
aligned_drops_bits = colours.aligned_drops_bits 4 2 2 0x29 premises.3 premises.4

pub aligned_reply : 9 ≡ drop_bits 4 2 0x29
aligned_reply = colours.aligned_reply 4 2 2 0x29 9 premises.5

pub interval_equation : 0 + bleach_index 16 (consecutive 2 2) 0x22 ≡ equation_one 16 2 3 0 0x22
interval_equation = colours.interval_equation 16 2 3 0 0x22 (omega arith) (omega arith) premises.6 premises.7

pub interval_reply : 0 + 4 ≡ equation_one 16 2 3 0 0x22
interval_reply = colours.interval_reply 16 2 3 0 0x22 4 (omega arith) (omega arith) premises.8

pub place_ones : place_of 0xC 3 ≡ ones 4
place_ones = colours.place_ones 0xC 3

pub mask_is_remainder : bit_and 0x29 3 ≡ 1
mask_is_remainder = colours.mask_is_remainder 32 0x29 2 (omega arith) (omega arith)

pub shifts_drop_bits : bit_or 8 1 ≡ drop_bits 4 2 0x29
shifts_drop_bits = colours.shifts_drop_bits 32 0x29 4 2 (omega arith) (omega arith)
