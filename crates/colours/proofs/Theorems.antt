-- The theorems of `colours`, for every number N of colours and every set of them, and on the replies for those that document 01 takes.
-- Document 01, "Colours of the cache"; document 004, "Address Bleaching". The arguments stand in the other files of this folder.
use Prim.Native.Nat.{ℕ, ◌+◌, ◌-◌, ◌*◌, ◌/◌, ◌^◌, ◌<◌, ◌≤◌}
use native.Mathlib.Omega.{arith}
use mathlib.Core.Bool.{true, ◌&&◌}
use mathlib.Core.Logic.{◌↔◌}
use mathlib.Core.Path.{◌≡◌, sym, ap, ◌∙◌}
use lib.Dec.{leb, ltb}
use lib.Pow.{pow_pos}
use Rattle.refusal.specs.Reply.{Answers}
use Rattle.colours.specs.Sets.{is_colour_set, has, consecutive}
use Rattle.colours.specs.Cache.{is_colour_count, cache_reply, colour_of, page_of, cache_set}
use Rattle.colours.specs.Pages.{layout_page, layout_reply, bleach_index, bleach_reply, drop_bits, equation_one}
use Rattle.colours.proofs.Ranges.{count_range, colour_set_lem}
use Rattle.colours.proofs.CacheSets.{set_colour}
use Rattle.colours.proofs.RoundTrip.{has_layout, bleach_layout, layout_bleach, layout_lt}
use Rattle.colours.proofs.ConsecutiveSets.{consecutive_has, consecutive_within, bleach_aligned, bleach_interval}
use Rattle.colours.proofs.Replies.{cache_iff, layout_answers, bleach_answers, bleach_answered}

-- A cache has N colours just where it has N × W × 4,096 bytes in its W ways.
pub cache_size : (b w n : ℕ) → (cache_reply b w ≡ Answers n) ↔ ((0 < w) × (is_colour_count n ≡ true) × (b ≡ n * (w * 4096)))
cache_size = cache_iff

-- Two byte addresses with one cache set have one colour.
pub one_set_one_colour : (n a b : ℕ) → 0 < n → cache_set n a ≡ cache_set n b → colour_of n (page_of a) ≡ colour_of n (page_of b)
one_set_one_colour n a b h e = sym (set_colour n a h) ∙ ap (λ (x : ℕ). x / 64) e ∙ set_colour n b h

module _ (n s : ℕ) (set : is_colour_set n s ≡ true) where
  -- Layout then bleaching gives the index back.
  pub layout_then_bleaching : (i : ℕ) → bleach_index n s (layout_page n s i) ≡ i
  layout_then_bleaching i = bleach_layout (colour_set_lem n s set) i

  -- Bleaching then layout gives the page back, where its colour is in the set.
  pub bleaching_then_layout : (p : ℕ) → has s (colour_of n p) ≡ true → layout_page n s (bleach_index n s p) ≡ p
  bleaching_then_layout p h = layout_bleach (colour_set_lem n s set) p h

  -- A laid-out page has a colour of the set.
  pub laid_out_colour : (i : ℕ) → has s (colour_of n (layout_page n s i)) ≡ true
  laid_out_colour i = has_layout (colour_set_lem n s set) i

  -- Different indexes go to different pages.
  pub different_pages : (i j : ℕ) → layout_page n s i ≡ layout_page n s j → i ≡ j
  different_pages i j e = sym (layout_then_bleaching i) ∙ ap (bleach_index n s) e ∙ layout_then_bleaching j

  -- The same of the replies, for N as document 01 takes it: every index in its limit is laid out and bleached back, and every page
  -- whose colour is in the set and whose index lies in its limit is bleached and laid out again.
  module _ (count : is_colour_count n ≡ true) where
    pub index_back :
        (i : ℕ) → i ≤ 2 ^ 24 - 1
        → (layout_reply n s i ≡ Answers (layout_page n s i)) × (bleach_reply n s (layout_page n s i) ≡ Answers i)
    index_back i h =
        let p : ℕ = layout_page n s i in
        let i_lt : i < 2 ^ 24 = omega arith in
        let p_le : p ≤ 2 ^ 28 - 1 = omega (arith, layout_lt (colour_set_lem n s set) 24 i i_lt, count_range n count) in
        (layout_answers n s count set i h, bleach_answers n s count set p p_le (laid_out_colour i) ∙ ap Answers (layout_then_bleaching i))

    pub page_back :
        (p : ℕ) → p ≤ 2 ^ 28 - 1 → has s (colour_of n p) ≡ true → bleach_index n s p ≤ 2 ^ 24 - 1
        → (bleach_reply n s p ≡ Answers (bleach_index n s p)) × (layout_reply n s (bleach_index n s p) ≡ Answers p)
    page_back p h member low = (
      bleach_answers n s count set p h member,
      layout_answers n s count set (bleach_index n s p) low ∙ ap Answers (bleaching_then_layout p member),
    )

-- The set of c consecutive colours from f on has these colours and no others.
pub consecutive_colours : (f c x : ℕ) → has (consecutive f c) x ≡ (leb f x && ltb x (f + c))
consecutive_colours = consecutive_has

-- Bleaching on 2 ^ k consecutive colours that start at a multiple of 2 ^ k, of N = 2 ^ m, is dropping the colour bits above the lowest k.
module _ (m k j : ℕ) where
  abbrev pub aligned : ℕ
  aligned = consecutive (j * 2 ^ k) (2 ^ k)

  pub aligned_drops_bits :
      (p : ℕ) → is_colour_set (2 ^ m) aligned ≡ true → has aligned (colour_of (2 ^ m) p) ≡ true
      → bleach_index (2 ^ m) aligned p ≡ drop_bits m k p
  aligned_drops_bits p set member =
      bleach_aligned m k j p (consecutive_within (j * 2 ^ k) (2 ^ k) (2 ^ m) (pow_pos k) (colour_set_lem _ _ set).below) member

  pub aligned_reply : (p i : ℕ) → bleach_reply (2 ^ m) aligned p ≡ Answers i → i ≡ drop_bits m k p
  aligned_reply p i e =
      let r = bleach_answered (2 ^ m) aligned p i e in
      sym r.index ∙ aligned_drops_bits p r.set r.member

-- Bleaching on an interval of colours, l to u of N, is equation (1) of document 004 with its factor mended: a page a at or above the
-- base b goes to b and the index of their distance.
module _ (n l u : ℕ) (order : l ≤ u) where
  abbrev pub interval : ℕ
  interval = consecutive l (u - l + 1)

  pub interval_equation :
      (b a : ℕ) → b ≤ a → is_colour_set n interval ≡ true → has interval (colour_of n (a - b)) ≡ true
      → b + bleach_index n interval (a - b) ≡ equation_one n l u b a
  interval_equation b a above set member =
      let fits = consecutive_within l (u - l + 1) n (omega arith) (colour_set_lem _ _ set).below in
      bleach_interval n l u b a order (omega arith) above member

  pub interval_reply : (b a i : ℕ) → b ≤ a → bleach_reply n interval (a - b) ≡ Answers i → b + i ≡ equation_one n l u b a
  interval_reply b a i above e =
      let r = bleach_answered n interval (a - b) i e in
      ap (λ (x : ℕ). b + x) (sym r.index) ∙ interval_equation b a above r.set r.member
