-- Dropping colour bits by masks and shifts on words of any width w: each form that the code uses is `drop_bits`, division and remainder.
use Prim.Native.Nat.{ℕ, ◌+◌, ◌-◌, ◌*◌, ◌/◌, ◌%◌, ◌^◌, ◌<◌, ◌≤◌}
use native.Mathlib.Nat.{zero-mul, zero-add, le_of_lt, lt_of_lt_of_le, lt_of_le_of_lt, le_trans, mod-lt, mod-eq_of_lt, div-eq_of_lt, div-mul-le_self, mul-le-mul_left, min-eq_left, min-eq_right}
use mathlib.Core.Path.{◌≡◌, sym, ◌∙◌}
use lib.Bits.{bit_and, bit_or, and_mask, or_shifted}
use lib.Pow.{pow_pos, pow_mono, split}
use Rattle.lists.proofs.CaseSplits.{below_or_not}
use Rattle.colours.specs.Pages.{drop_bits}
use Rattle.colours.proofs.Bits.{one_shl}

-- no colour bit lies above the lowest k
pub drop_none : (m k p : ℕ) → m ≤ k → drop_bits m k p ≡ p
unfolding drop_bits
drop_none m k p h = rw (min-eq_right h) (split p m)

-- fewer bits are kept than are colour bits
pub drop_some : (m k p : ℕ) → k < m → drop_bits m k p ≡ p / 2 ^ m * 2 ^ k + p % 2 ^ k
unfolding drop_bits
drop_some m k p h = rw (min-eq_left (le_of_lt h))

module _ (w p : ℕ) (word : p < 2 ^ w) where
  -- from bit w on a word has nothing
  none_above : (m : ℕ) → w ≤ m → p / 2 ^ m ≡ 0
  none_above m h = div-eq_of_lt (lt_of_lt_of_le word (pow_mono h))

  pub drop_low : (m k : ℕ) → k < m → w ≤ m → drop_bits m k p ≡ p % 2 ^ k
  drop_low m k l h = drop_some m k p l ∙ rw (none_above m h, zero-mul (2 ^ k)) (zero-add (p % 2 ^ k))

  pub drop_nothing : (m k : ℕ) → w ≤ k → drop_bits m k p ≡ p
  drop_nothing m k h =
      below_or_not k m
      (λ l. drop_low m k l (le_trans h (le_of_lt l)) ∙ mod-eq_of_lt (lt_of_lt_of_le word (pow_mono h)))
      (λ l. drop_none m k p l)

  -- p & ((1 << k) - 1)
  pub masked : (k : ℕ) → k < w → bit_and p (1 * 2 ^ k % 2 ^ w - 1) ≡ p % 2 ^ k
  masked k h = rw (one_shl w k h) (and_mask p k)

  -- (p >> m << k) | low
  pub shifted : (m k : ℕ) → k < m → bit_or (p / 2 ^ m * 2 ^ k % 2 ^ w) (p % 2 ^ k) ≡ drop_bits m k p
  shifted m k l =
      let fits : p / 2 ^ m * 2 ^ k < 2 ^ w = lt_of_le_of_lt (le_trans (mul-le-mul_left (p / 2 ^ m) (pow_mono (le_of_lt l))) (div-mul-le_self p (2 ^ m))) word in
      rw (mod-eq_of_lt fits) (or_shifted (p / 2 ^ m) k (p % 2 ^ k) (mod-lt p (pow_pos k)) ∙ sym (drop_some m k p l))
