-- The colours that two sets have in common are the bits of their intersection: what it means that one lies inside another, and that they
-- share nothing.
use Prim.Native.Nat.{ℕ, ◌/◌, ◌%◌, ◌^◌, min}
use native.Mathlib.Nat.{zero-div}
use native.Mathlib.Omega.{arith}
use mathlib.Core.Bool.{true}
use mathlib.Core.Path.{◌≡◌, sym, ap, ◌∙◌}
use lib.Bits.{bit_and, and_step, and_shr}
use borrow.Author.Tests.{eqb-true, eq-eqb}
use Rattle.colours.specs.Sets.{has}

digit_and : (a b c : ℕ) → bit_and a b / 2 ^ c % 2 ≡ min (a / 2 ^ c % 2) (b / 2 ^ c % 2)
digit_and a b c = rw (and_shr a b c) (omega (arith, and_step (a / 2 ^ c) (b / 2 ^ c)))

-- a set inside another: the other has its colours
pub inside_has : (s g c : ℕ) → bit_and s g ≡ s → has s c ≡ true → has g c ≡ true
unfolding has
inside_has s g c e h =
    let d : s / 2 ^ c % 2 ≡ min (s / 2 ^ c % 2) (g / 2 ^ c % 2) = ap (λ (x : ℕ). x / 2 ^ c % 2) (sym e) ∙ digit_and s g c in
    eq-eqb (g / 2 ^ c % 2) 1 (omega (arith, d, eqb-true (s / 2 ^ c % 2) 1 h))

-- two sets that share nothing: no colour is in both
pub apart_has : (a b c : ℕ) → bit_and a b ≡ 0 → has a c ≡ true → has b c ≡ true → ⊥
unfolding has
apart_has a b c e h k =
    let z : min (a / 2 ^ c % 2) (b / 2 ^ c % 2) ≡ 0 = sym (digit_and a b c) ∙ rw (e, zero-div (2 ^ c)) in
    omega (arith, z, eqb-true (a / 2 ^ c % 2) 1 h, eqb-true (b / 2 ^ c % 2) 1 k)
