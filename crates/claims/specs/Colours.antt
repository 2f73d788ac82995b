-- The claims on colours: document 01, "Colours of the cache", and document 004, "Address Bleaching". Those on layout and bleaching hold for
-- every number N of colours and every set of them; those on replies for the N that document 01 takes.
use Rattle.std.specs.Prelude.{ℕ, ◌+◌, ◌-◌, ◌*◌, ◌/◌, ◌%◌, ◌^◌, ◌<◌, ◌≤◌, true, ◌&&◌, ◌↔◌, ◌≡◌, leb, ltb}
use Rattle.std.specs.Int.Bits.{bit_and, bit_or}
use Rattle.std.specs.Int.Count.{ones}
use Rattle.refusal.specs.Reply.{Answers}
use Rattle.colours.specs.Sets.{is_colour_set, has, place_of, consecutive}
use Rattle.colours.specs.Cache.{is_colour_count, cache_reply, colour_of, page_of, cache_set}
use Rattle.colours.specs.Pages.{layout_page, layout_reply, bleach_index, bleach_reply, drop_bits, equation_one}

pub record ColourClaims : Type 0 where
  -- A cache has N colours just where it has N × W × 4,096 bytes in its W ways, W above 0, and N is 1, 2, 4, 8 or 16.
  pub cache_size : (b w n : ℕ) → (cache_reply b w ≡ Answers n) ↔ ((0 < w) × (is_colour_count n ≡ true) × (b ≡ n * (w * 4096)))
  -- Two addresses with one cache set have one colour.
  pub one_set_one_colour : (n a b : ℕ) → 0 < n → cache_set n a ≡ cache_set n b → colour_of n (page_of a) ≡ colour_of n (page_of b)
  -- Layout then bleaching gives the index back.
  pub layout_then_bleaching : (n s : ℕ) → is_colour_set n s ≡ true → (i : ℕ) → bleach_index n s (layout_page n s i) ≡ i
  -- Bleaching then layout gives the page back, where its colour is in the set.
  pub bleaching_then_layout :
      (n s : ℕ) → is_colour_set n s ≡ true → (p : ℕ) → has s (colour_of n p) ≡ true → layout_page n s (bleach_index n s p) ≡ p
  -- A laid-out page has a colour of the set.
  pub laid_out_colour : (n s : ℕ) → is_colour_set n s ≡ true → (i : ℕ) → has s (colour_of n (layout_page n s i)) ≡ true
  -- Different indexes go to different pages.
  pub different_pages : (n s : ℕ) → is_colour_set n s ≡ true → (i j : ℕ) → layout_page n s i ≡ layout_page n s j → i ≡ j
  -- Of the replies: every index in its limit is laid out and bleached back.
  pub index_back :
      (n s : ℕ) → is_colour_set n s ≡ true → is_colour_count n ≡ true → (i : ℕ) → i ≤ 2 ^ 24 - 1
      → (layout_reply n s i ≡ Answers (layout_page n s i)) × (bleach_reply n s (layout_page n s i) ≡ Answers i)
  -- Every page in its limit whose colour is in the set, and whose index lies in its limit, is bleached and laid out again.
  pub page_back :
      (n s : ℕ) → is_colour_set n s ≡ true → is_colour_count n ≡ true
      → (p : ℕ) → p ≤ 2 ^ 28 - 1 → has s (colour_of n p) ≡ true → bleach_index n s p ≤ 2 ^ 24 - 1
      → (bleach_reply n s p ≡ Answers (bleach_index n s p)) × (layout_reply n s (bleach_index n s p) ≡ Answers p)
  -- The set of c consecutive colours from f on has these colours and no others.
  pub consecutive_colours : (f c x : ℕ) → has (consecutive f c) x ≡ (leb f x && ltb x (f + c))
  -- On 2^k consecutive colours from a multiple of 2^k, of N = 2^m, bleaching drops the colour bits above the lowest k: by definition and reply.
  pub aligned_drops_bits :
      (m k j p : ℕ) → is_colour_set (2 ^ m) (consecutive (j * 2 ^ k) (2 ^ k)) ≡ true
      → has (consecutive (j * 2 ^ k) (2 ^ k)) (colour_of (2 ^ m) p) ≡ true
      → bleach_index (2 ^ m) (consecutive (j * 2 ^ k) (2 ^ k)) p ≡ drop_bits m k p
  pub aligned_reply :
      (m k j p i : ℕ) → bleach_reply (2 ^ m) (consecutive (j * 2 ^ k) (2 ^ k)) p ≡ Answers i → i ≡ drop_bits m k p
  -- On an interval of colours bleaching is equation (1) of document 004, its factor mended: page a from base b on goes to b and the index of a − b.
  pub interval_equation :
      (n l u b a : ℕ) → l ≤ u → b ≤ a → is_colour_set n (consecutive l (u - l + 1)) ≡ true
      → has (consecutive l (u - l + 1)) (colour_of n (a - b)) ≡ true
      → b + bleach_index n (consecutive l (u - l + 1)) (a - b) ≡ equation_one n l u b a
  pub interval_reply :
      (n l u b a i : ℕ) → l ≤ u → b ≤ a → bleach_reply n (consecutive l (u - l + 1)) (a - b) ≡ Answers i → b + i ≡ equation_one n l u b a
  -- Masks and shifts against division, remainder and place in the set, over any width w: the place of a colour is the count of ones below
  -- it; p & ((1 << k) − 1) is the remainder by 2^k; (p >> m << k) | low drops the bits from k up to m.
  pub place_ones : (s c : ℕ) → place_of s c ≡ ones (s % 2 ^ c)
  pub mask_is_remainder : (w p k : ℕ) → p < 2 ^ w → k < w → bit_and p (1 * 2 ^ k % 2 ^ w - 1) ≡ p % 2 ^ k
  pub shifts_drop_bits : (w p m k : ℕ) → p < 2 ^ w → k < m → bit_or (p / 2 ^ m * 2 ^ k % 2 ^ w) (p % 2 ^ k) ≡ drop_bits m k p
