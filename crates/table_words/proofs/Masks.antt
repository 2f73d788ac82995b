-- The colour of a frame by a mask: the number of colours is a power of two, so that the lowest bits are the remainder, and whether the colour is in a set is
-- what the code's test says.
use Rattle.std.proofs.Common.{◌≡◌, ℕ, ◌-◌, ◌%◌, true, [], ◌∷◌, ap, ◌∙◌, mod-lt, mod-eq_of_lt, arith}
use lib.Bits.{bit_and, and_mask}
use Rattle.lists.proofs.Members.{member_has}
use Rattle.colours.specs.Cache.{is_colour_count}
use Rattle.colours.specs.Sets.{has}
use Rattle.colours.proofs.Ranges.{count_range}
use Rattle.table_words.specs.Sets.{one_less, masked_in}

colour_mask : (n f : ℕ) → is_colour_count n ≡ true → bit_and f (n - 1) ≡ f % n
unfolding is_colour_count
colour_mask n f e =
    member_has (λ (m : ℕ). bit_and f (m - 1) ≡ f % m) n (1 ∷ 2 ∷ 4 ∷ 8 ∷ 16 ∷ [])
    (and_mask f 0, (and_mask f 1, (and_mask f 2, (and_mask f 3, (and_mask f 4, tt)))))
    e

pub masked_is : (n c f : ℕ) → is_colour_count n ≡ true → masked_in n c f ≡ has c (f % n)
unfolding masked_in
masked_is n c f ok =
    let r = count_range n ok in
    let less : one_less n ≡ n - 1 = omega arith in
    let small = mod-lt f {m = n} (omega arith) in
    ap (λ (m : ℕ). has c (bit_and f m % 32)) less
    ∙ ap (λ (x : ℕ). has c (x % 32)) (colour_mask n f ok)
    ∙ ap (has c) (mod-eq_of_lt (omega (arith, small)))
