-- Sets of consecutive colours, from a first one f on, c of them: which colours they have, their size and places, and what bleaching is
-- on them.
use Prim.Native.Nat.{ℕ, suc, ◌+◌, ◌-◌, ◌*◌, ◌/◌, ◌%◌, ◌^◌, ◌<◌, ◌≤◌}
use native.Mathlib.Nat.{add-zero, zero-div, le_refl, le_of_lt, lt_irrefl, lt_of_lt_of_le, div-eq_of_lt, mul-mod_left, mul_assoc, mul-sub, mul-le-mul_left, div-add-mod', min-eq_left}
use native.Mathlib.Omega.{arith}
use mathlib.Core.Bool.{true, ◌&&◌}
use mathlib.Core.Path.{◌≡◌, refl, sym, ap, ap₂, ◌∙◌}
use lib.Bits.{shifted_even}
use lib.Count.{ones, ones_in, ones_cat, ones-ones}
use lib.Dec.{leb, ltb}
use lib.Pow.{pow_pos, pow_mono, pow-lt, pow-add, shl-shr, shl_lt, shr-shr, ones_lt, ones_split, high, low, mod-pow-add, mod-mod-pow}
use borrow.Author.Tests.{le-leb, lt-leb, lt-ltb, le-ltb, leb-true, ltb-true, ne_eqb}
use Rattle.lists.proofs.CaseSplits.{below_or_not, and_both}
use Rattle.colours.specs.Sets.{is_colour_set, has, place_of, consecutive}
use Rattle.colours.specs.Pages.{bleach_index, drop_bits, equation_one}
use Rattle.colours.proofs.Bits.{place_ones}

-- of c ones, those from place y on, and those below
ones_high : (c y : ℕ) → y ≤ c → (2 ^ c - 1) / 2 ^ y ≡ 2 ^ (c - y) - 1
ones_high c y h =
    let e : c ≡ (c - y) + y = omega arith in
    ap (λ (x : ℕ). (2 ^ x - 1) / 2 ^ y) e ∙ rw (ones_split (c - y) y) (high (2 ^ (c - y) - 1) y (ones_lt y))

ones_low : (c y : ℕ) → y ≤ c → (2 ^ c - 1) % 2 ^ y ≡ 2 ^ y - 1
ones_low c y h =
    let e : c ≡ (c - y) + y = omega arith in
    ap (λ (x : ℕ). (2 ^ x - 1) % 2 ^ y) e ∙ rw (ones_split (c - y) y) (low (2 ^ (c - y) - 1) y (ones_lt y))

ones_zero : ones 0 ≡ 0
unfolding ones ones_in
ones_zero = refl

ones_shifted : (a k : ℕ) → ones (a * 2 ^ k) ≡ ones a
ones_shifted a k =
    ap ones (sym (add-zero (a * 2 ^ k))) ∙ ones_cat k a 0 (pow_pos k) ∙ rw ones_zero (add-zero (ones a))

module _ (f c : ℕ) where
  consecutive_shr : consecutive f c / 2 ^ f ≡ 2 ^ c - 1
  unfolding consecutive
  consecutive_shr = shl-shr (2 ^ c - 1) f

  digit_before : (x : ℕ) → x < f → consecutive f c / 2 ^ x % 2 ≡ 0
  unfolding consecutive
  digit_before x l =
      let d : ℕ = f - suc x in
      let e : f ≡ suc d + x = omega arith in
      let apart : (2 ^ c - 1) * 2 ^ f ≡ (2 ^ c - 1) * 2 ^ suc d * 2 ^ x = ap (λ (y : ℕ). (2 ^ c - 1) * 2 ^ y) e ∙ rw (pow-add 2 (suc d) x) (sym (mul_assoc (2 ^ c - 1) (2 ^ suc d) (2 ^ x))) in
      rw (apart, shl-shr ((2 ^ c - 1) * 2 ^ suc d) x) (shifted_even (2 ^ c - 1) d)

  digit_in : (x : ℕ) → f ≤ x → x < f + c → consecutive f c / 2 ^ x % 2 ≡ 1
  digit_in x l h =
      let y : ℕ = x - f in
      let d : ℕ = c - suc y in
      let e : x ≡ f + y = omega arith in
      let r : c - y ≡ suc d = omega arith in
      let q : consecutive f c / 2 ^ x ≡ 2 ^ suc d - 1 = ap (λ (z : ℕ). consecutive f c / 2 ^ z) e ∙ sym (shr-shr (consecutive f c) f y) ∙ rw consecutive_shr (ones_high c y (omega arith) ∙ rw r) in
      rw q (omega (arith, pow_pos d))

  consecutive_lt : (x : ℕ) → f + c ≤ x → consecutive f c < 2 ^ x
  unfolding consecutive
  consecutive_lt x h = let l : c + f ≤ x = omega arith in lt_of_lt_of_le (shl_lt c f (ones_lt c)) (pow_mono l)

  digit_after : (x : ℕ) → f + c ≤ x → consecutive f c / 2 ^ x % 2 ≡ 0
  digit_after x h = rw (div-eq_of_lt (consecutive_lt x h))

  -- a colour is in the set just where it is one of the c from f on
  pub consecutive_has : (x : ℕ) → has (consecutive f c) x ≡ (leb f x && ltb x (f + c))
  unfolding has
  consecutive_has x =
      below_or_not x f
      (λ l. simp (digit_before x l, lt-leb f x l))
      (λ l. below_or_not x (f + c)
      (λ h. simp (digit_in x l h, le-leb f x l, lt-ltb x (f + c) h))
      (λ h. simp (digit_after x h, le-leb f x l, le-ltb x (f + c) h)))

  pub consecutive_ones : ones (consecutive f c) ≡ c
  unfolding consecutive
  consecutive_ones = ones_shifted (2 ^ c - 1) f ∙ ones-ones c

  pub consecutive_place : (x : ℕ) → f ≤ x → x ≤ f + c → place_of (consecutive f c) x ≡ x - f
  unfolding consecutive
  consecutive_place x l h =
      let y : ℕ = x - f in
      let e : x ≡ y + f = omega arith in
      let m : consecutive f c % 2 ^ x ≡ (2 ^ y - 1) * 2 ^ f = ap (λ (z : ℕ). consecutive f c % 2 ^ z) e ∙ mod-pow-add (consecutive f c) y f ∙ rw (consecutive_shr, ones_low c y (omega arith), mul-mod_left (2 ^ c - 1) (2 ^ f)) (add-zero ((2 ^ y - 1) * 2 ^ f)) in
      place_ones (consecutive f c) x ∙ rw m (ones_shifted (2 ^ y - 1) f ∙ ones-ones y)

  -- where its colours are all below n, it is a set of n colours
  pub consecutive_set : (n : ℕ) → 0 < c → f + c ≤ n → is_colour_set n (consecutive f c) ≡ true
  unfolding is_colour_set
  consecutive_set n some h =
      let first = digit_in f (le_refl f) (omega arith) in
      let not_0 : consecutive f c ≡ 0 → ⊥ = λ e. omega (arith, zero-div (2 ^ f), rw e at first) in
      simp (ne_eqb (consecutive f c) 0 not_0, div-eq_of_lt (consecutive_lt n h))

  -- and conversely
  pub consecutive_within : (n : ℕ) → 0 < c → consecutive f c < 2 ^ n → f + c ≤ n
  consecutive_within n some h =
      below_or_not n (f + c)
      (λ l.
      let x : ℕ = f + c - 1 in
      let last = digit_in x (omega arith) (omega arith) in
      let n_le : n ≤ x = omega arith in
      let none = div-eq_of_lt (lt_of_lt_of_le h (pow_mono n_le)) in
      absurd (lt_irrefl 0 (omega (arith, rw none at last))))
      (λ l. l)

  -- a page whose colour is one of them goes to its row's places and the colours from f on
  pub bleach_consecutive : (n p : ℕ) → has (consecutive f c) (p % n) ≡ true
      → (f ≤ p % n) × (p % n < f + c) × (bleach_index n (consecutive f c) p ≡ p / n * c + (p % n - f))
  unfolding bleach_index
  bleach_consecutive n p h =
      let x : ℕ = p % n in
      let both = and_both (leb f x) (ltb x (f + c)) (sym (consecutive_has x) ∙ h) in
      let l : f ≤ x = leb-true f x both.0 in
      let u : x < f + c = ltb-true x (f + c) both.1 in
      (l, u, rw (consecutive_ones, consecutive_place (p % n) l (le_of_lt u)))

-- 2 ^ k colours from a multiple of 2 ^ k on, of 2 ^ m: bleaching drops the colour bits above the lowest k
pub bleach_aligned : (m k j p : ℕ) → j * 2 ^ k + 2 ^ k ≤ 2 ^ m → has (consecutive (j * 2 ^ k) (2 ^ k)) (p % 2 ^ m) ≡ true
    → bleach_index (2 ^ m) (consecutive (j * 2 ^ k) (2 ^ k)) p ≡ drop_bits m k p
unfolding drop_bits
bleach_aligned m k j p fits h =
    let f : ℕ = j * 2 ^ k in
    let x : ℕ = p % 2 ^ m in
    let r = bleach_consecutive f (2 ^ k) (2 ^ m) p h in
    let k_le : k ≤ m = below_or_not m k (λ l. absurd (lt_irrefl 0 (omega (arith, pow-lt l)))) (λ l. l) in
    let m_is : m - k + k ≡ m = omega arith in
    let x_is : x ≡ f + (x - f) = omega arith in
    let low_x : x % 2 ^ k ≡ x - f = ap (λ (y : ℕ). y % 2 ^ k) x_is ∙ low j k (omega arith) in
    let low_p : p % 2 ^ k ≡ x - f = sym (mod-mod-pow p (m - k) k) ∙ rw m_is low_x in
    rw (min-eq_left k_le, low_p) r.2

-- with all products as they stand: q rows of k places for q rows of n colours
regroup : (b rows places x l : ℕ) → l ≤ x → places ≤ rows → b + (places + (x - l)) ≡ b + (rows + x) - (rows - places) - l
regroup b rows places x l h k = omega arith

-- the colours l to u of n: bleaching is equation (1), over any base b
pub bleach_interval : (n l u b a : ℕ) → l ≤ u → u < n → b ≤ a → has (consecutive l (u - l + 1)) ((a - b) % n) ≡ true
    → b + bleach_index n (consecutive l (u - l + 1)) (a - b) ≡ equation_one n l u b a
unfolding equation_one
bleach_interval n l u b a lu un ba h =
    let p : ℕ = a - b in
    let k : ℕ = u - l + 1 in
    let q : ℕ = p / n in
    let r = bleach_consecutive l k n p h in
    let k_le : k ≤ n = omega arith in
    let a_is : b + (q * n + p % n) ≡ a = rw (div-add-mod' p n) (omega arith) in
    ap (λ (i : ℕ). b + i) r.2 ∙ regroup b (q * n) (q * k) (p % n) l r.0 (mul-le-mul_left q k_le)
    ∙ ap₂ (λ (x y : ℕ). x - y - l) a_is (sym (mul-sub q n k))
