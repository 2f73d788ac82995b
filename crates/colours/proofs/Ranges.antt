-- What accepted numbers of colours and accepted sets give: the bounds that the code needs, and the colour at a place.
use Prim.Native.Nat.{ℕ, ◌/◌, ◌%◌, ◌^◌, ◌<◌, ◌≤◌}
use native.Mathlib.Nat.{mod-lt, mod-eq_of_lt, mul-le-mul_left, div-add-mod', div-lt_iff_lt-mul, one-mul, pos_of_ne-zero, lt_irrefl}
use native.Mathlib.Omega.{arith}
use mathlib.Core.Bool.{true, false, false≢true}
use mathlib.Core.List.{[], ◌∷◌}
use mathlib.Core.Path.{◌≡◌, ap}
use lib.Count.{ones, ones-le}
use lib.Dec.{eqb}
use lib.Pow.{pow_pos}
use borrow.Author.Tests.{eqb-true, eqb-false}
use Rattle.lists.proofs.CaseSplits.{cases}
use Rattle.lists.proofs.PassingNumbers.{count, nth, Placed, nth_placed}
use Rattle.lists.proofs.Members.{member_has}
use Rattle.colours.specs.Sets.{is_colour_set, has, colours_below, colour_at, place_of}
use Rattle.colours.specs.Cache.{is_colour_count}
use Rattle.colours.specs.Pages.{bleach_index}
use Rattle.colours.proofs.Bits.{size_ones, place_ones, ones_pos}

pub count_range : (n : ℕ) → is_colour_count n ≡ true → (1 ≤ n) × (n ≤ 16)
unfolding is_colour_count
count_range n e = member_has (λ (m : ℕ). (1 ≤ m) × (m ≤ 16)) n (1 ∷ 2 ∷ 4 ∷ 8 ∷ 16 ∷ []) (omega arith) e

pub count_high : (n : ℕ) → 16 < n → is_colour_count n ≡ false
count_high n l =
    cases (is_colour_count n) (λ e. absurd (lt_irrefl n (omega (arith, count_range n e)))) (λ e. e)

-- a colour below 32 is its own bit
pub own_colour : (c x : ℕ) → x < 32 → has c (x % 32) ≡ has c x
own_colour c x l = ap (has c) (mod-eq_of_lt l)

-- what an accepted set has
pub record ColourSet (n s : ℕ) : Type 0 where
  pub some : 0 < s
  pub below : s < 2 ^ n
  pub size_pos : 0 < ones s
  pub size_le : ones s ≤ n

pub colour_set_lem : (n s : ℕ) → is_colour_set n s ≡ true → ColourSet n s
unfolding is_colour_set
colour_set_lem n s e = cases (eqb s 0) (λ z. absurd (false≢true (rw z at e))) (λ z. go z (rw z at e))
  where
    go : eqb s 0 ≡ false → eqb (s / 2 ^ n) 0 ≡ true → ColourSet n s
    go z q =
        let pos : 0 < s = pos_of_ne-zero (eqb-false s 0 z) in
        let none : s / 2 ^ n < 1 = omega (arith, eqb-true (s / 2 ^ n) 0 q) in
        let low : s < 2 ^ n = rw (one-mul (2 ^ n)) at ((div-lt_iff_lt-mul {y = 1} (pow_pos n)).0 none) in
        record { some = pos; below = low; size_pos = ones_pos s pos; size_le = ones-le n s low }

-- no more colours of a set are below c than there are
place_le : (s c : ℕ) → place_of s c ≤ c
place_le s c = rw (place_ones s c) (ones-le c (s % 2 ^ c) (mod-lt s (pow_pos c)))

module _ {n s : ℕ} (set : ColourSet n s) where
  -- the set has as many colours as ones
  pub counted : count (has s) 0 n ≡ ones s
  unfolding count place_of colours_below
  counted = size_ones n s set.below

  pub colour_placed : (j : ℕ) → j < ones s → Placed (has s) 0 n j (colour_at n s j)
  unfolding nth colour_at colours_below
  colour_placed j l = nth_placed (has s) n 0 j (rw counted l)

  pub colour_lt : (j : ℕ) → j < ones s → colour_at n s j < n
  colour_lt j l = omega (arith, (colour_placed j l).high)

  pub bleach_le : (p : ℕ) → 0 < n → bleach_index n s p ≤ p
  unfolding bleach_index
  bleach_le p h = omega (arith, mul-le-mul_left (p / n) set.size_le, place_le s (p % n), div-add-mod' p n)
