-- Bits of a set, over any width: the place of a colour is a count of ones, and a shifted one is a power of two.
use Prim.Native.Nat.{ℕ, zero, suc, ◌+◌, ◌*◌, ◌/◌, ◌%◌, ◌^◌, ◌<◌}
use native.Mathlib.Nat.{one-mul, div-one, mod-one, mod-eq_of_lt, eq-zero-or-pos, lt_irrefl}
use native.Mathlib.Numerals.{add-one}
use native.Mathlib.Omega.{arith}
use mathlib.Core.Logic.{⊎_elim}
use mathlib.Core.Path.{◌≡◌, ◌∙◌}
use lib.Arith.{bin_ind}
use lib.Count.{ones, ones_step, ones_in}
use lib.Pow.{field, mod-mod-pow, shr-shr, shl_exact}
use borrow.Author.Tests.{eqb-true, eqb-false}
use Rattle.lists.specs.Range.{from, keep}
use Rattle.lists.proofs.CaseSplits.{cases}
use Rattle.lists.proofs.PassingNumbers.{count, count_next, count_same}
use Rattle.colours.specs.Sets.{has, colours_below, place_of}

-- of the k + 1 bits from bit i on, the lowest, and the k above it
ones_from : (s k i : ℕ) → ones (s / 2 ^ i % 2 ^ suc k) ≡ s / 2 ^ i % 2 + ones (s / 2 ^ suc i % 2 ^ k)
ones_from s k i =
    let x : ℕ = s / 2 ^ i in
    let low : x % 2 ^ suc k % 2 ≡ x % 2 = rw (← (add-one k)) (mod-mod-pow x k 1) in
    let high : x % 2 ^ suc k / 2 ≡ x / 2 % 2 ^ k = rw (← (add-one k)) (field x k 1) in
    let up : x / 2 ≡ s / 2 ^ suc i = rw (← (add-one i)) (shr-shr s i 1) in
    ones_step (x % 2 ^ suc k) ∙ rw (low, high, up)

-- as many of the k bits from bit i on are 1 as colours of the set lie there
pub count_ones : (s k i : ℕ) → count (has s) i k ≡ ones (s / 2 ^ i % 2 ^ k)
unfolding has count keep from ones ones_in
count_ones s zero i = rw (mod-one (s / 2 ^ i))
count_ones s (suc k) i =
    let rest = count_ones s k (suc i) in
    cases (has s i)
    (λ e. count_next (has s) i k e ∙ omega (arith, rest, ones_from s k i, eqb-true (s / 2 ^ i % 2) 1 e))
    (λ e. count_same (has s) i k e ∙ omega (arith, rest, ones_from s k i, eqb-false (s / 2 ^ i % 2) 1 e))

pub place_ones : (s c : ℕ) → place_of s c ≡ ones (s % 2 ^ c)
unfolding place_of colours_below count
place_ones s c = count_ones s c 0 ∙ rw (div-one s)

pub size_ones : (n s : ℕ) → s < 2 ^ n → place_of s n ≡ ones s
size_ones n s h = place_ones s n ∙ rw (mod-eq_of_lt h)

pub ones_pos : (s : ℕ) → 0 < s → 0 < ones s
ones_pos =
    bin_ind (λ (s : ℕ). 0 < s → 0 < ones s)
    (λ h. absurd (lt_irrefl 0 h))
    (λ s ih h. ⊎_elim (λ e. omega (arith, ones_step s)) (λ l. omega (arith, ones_step s, ih l)) (eq-zero-or-pos (s / 2)))

-- 1 << c, at a width above c
pub one_shl : (w c : ℕ) → c < w → 1 * 2 ^ c % 2 ^ w ≡ 2 ^ c
one_shl w c h = shl_exact 1 c w (omega arith) (omega arith) ∙ one-mul (2 ^ c)
