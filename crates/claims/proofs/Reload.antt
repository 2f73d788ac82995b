-- The colours reloaded, one by one: the union of sets has the colours that one of them has, and an intersection those that both have.
use Prim.Native.Nat.{ℕ, zero, suc, ◌-◌, ◌/◌, ◌%◌, ◌^◌, ◌<◌, min, max}
use native.Mathlib.Nat.{lt_of_le_of_lt, zero-div}
use native.Mathlib.Omega.{arith}
use mathlib.Core.Bool.{Bool, ◌&&◌, ◌||◌}
use mathlib.Core.List.{List}
use mathlib.Core.Path.{◌≡◌, refl, sym, ap, ◌∙◌}
use lib.Bits.{bit_and, bit_or, and_step, or_step, and_shr, or_shr, and_le_l}
use lib.Dec.{eqb}
use lib.ListN.{length}
use borrow.Author.Tests.{eqb-true, eqb-false}
use Rattle.lists.specs.Range.{from, upto, keep, any_of}
use Rattle.lists.proofs.CaseSplits.{cases}
use Rattle.lists.proofs.FilteredRange.{same_kept}
use Rattle.colours.specs.Sets.{has, colours_below, place_of}
use Rattle.colours.proofs.Bits.{size_ones}
use Rattle.rows.specs.RowWords.{colour_set}
use Rattle.rows.specs.Reload.{held_from, reloaded}
use Rattle.rows.proofs.Charging.{reloaded_is}

abbrev bit : ℕ → ℕ → ℕ
bit s c = s / 2 ^ c % 2

has_and : (a b c : ℕ) → has (bit_and a b) c ≡ (has a c && has b c)
unfolding has
has_and a b c =
    let least : bit (bit_and a b) c ≡ min (bit a c) (bit b c) = rw (and_shr a b c) (omega (arith, and_step (a / 2 ^ c) (b / 2 ^ c))) in
    cases (eqb (bit a c) 1)
    (λ e. let same : bit (bit_and a b) c ≡ bit b c = omega (arith, least, eqb-true (bit a c) 1 e) in rw (e, same) refl)
    (λ e. let none : bit (bit_and a b) c ≡ 0 = omega (arith, least, eqb-false (bit a c) 1 e) in rw (e, none) refl)

has_or : (a b c : ℕ) → has (bit_or a b) c ≡ (has a c || has b c)
unfolding has
has_or a b c =
    let most : bit (bit_or a b) c ≡ max (bit a c) (bit b c) = rw (or_shr a b c) (omega (arith, or_step (a / 2 ^ c) (b / 2 ^ c))) in
    cases (eqb (bit a c) 1)
    (λ e. let one : bit (bit_or a b) c ≡ 1 = omega (arith, most, eqb-true (bit a c) 1 e) in rw (e, one) refl)
    (λ e. let same : bit (bit_or a b) c ≡ bit b c = omega (arith, most, eqb-false (bit a c) 1 e) in rw (e, same) refl)

-- the union of n rows from row k on
has_held : (tasks : List ℕ) (c n k : ℕ) → has (held_from tasks k n) c ≡ any_of (λ (m : ℕ). has (colour_set tasks m) c) (from k n)
unfolding held_from from has
has_held tasks c zero k = rw (zero-div (2 ^ c)) refl
has_held tasks c (suc n) k =
    has_or (colour_set tasks k) (held_from tasks (suc k) n) c ∙ ap (λ (b : Bool). has (colour_set tasks k) c || b) (has_held tasks c n (suc k))

pub reloaded_counts :
    (n : ℕ) (tasks : List ℕ) (i j : ℕ) → colour_set tasks j < 2 ^ n
    → reloaded tasks i j
    ≡ length (keep (λ (c : ℕ). has (colour_set tasks j) c && any_of (λ (k : ℕ). has (colour_set tasks k) c) (from (suc j) (i - j))) (upto n))
unfolding place_of colours_below
reloaded_counts n tasks i j h =
    let own : ℕ = colour_set tasks j in
    let held : ℕ = held_from tasks (suc j) (i - j) in
    reloaded_is tasks i j
    ∙ sym (size_ones n (bit_and own held) (lt_of_le_of_lt (and_le_l own held) h))
    ∙ ap length
    (same_kept (has (bit_and own held)) (λ (c : ℕ). has own c && any_of (λ (k : ℕ). has (colour_set tasks k) c) (from (suc j) (i - j))) n
    (λ c l. has_and own held c ∙ ap (λ (b : Bool). has own c && b) (has_held tasks c (i - j) (suc j))))
