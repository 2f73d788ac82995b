-- Sums over the numbers of a range that pass a test: two that agree on the range are equal, and one that differs at a single number by so much differs by as
-- much where that number passes.
use Rattle.std.specs.Prelude.{if◌then◌else◌}
use Prim.Native.Nat.{ℕ, zero, suc, ◌+◌, ◌<◌, ◌≤◌}
use native.Mathlib.Nat.{le_refl, lt_irrefl, eq-or-lt_of_le}
use native.Mathlib.Omega.{arith}
use mathlib.Core.Bool.{Bool}
use mathlib.Core.Logic.{⊎_elim}
use mathlib.Core.Path.{◌≡◌, refl}
use lib.Dec.{eqb}
use borrow.Author.Tests.{eqb-true, eqb-false}
use Rattle.lists.specs.Range.{from, keep, total}
use Rattle.lists.proofs.CaseSplits.{cases}

module _ (q : ℕ → Bool) (g h : ℕ → ℕ) where
  pub same_total : (n i : ℕ) → ((x : ℕ) → i ≤ x → x < i + n → h x ≡ g x) → total h (keep q (from i n)) ≡ total g (keep q (from i n))
  unfolding keep from total
  same_total zero i same = refl
  same_total (suc n) i same =
      let rest = same_total n (suc i) (λ x l m. same x (omega arith) (omega arith)) in
      cases (q i) (λ e. rw (e, same i (le_refl i) (omega arith), rest)) (λ e. rw e rest)

  pub one_total : (j v : ℕ) → h j ≡ g j + v → ((x : ℕ) → (x ≡ j → ⊥) → h x ≡ g x) → (n i : ℕ) → i ≤ j → j < i + n
      → total h (keep q (from i n)) ≡ total g (keep q (from i n)) + (if q j then v else 0)
  unfolding keep from total
  one_total j v here other zero i l m = absurd (lt_irrefl j (omega arith))
  one_total j v here other (suc n) i l m =
      cases (eqb i j)
      (λ e.
      let is = eqb-true i j e in
      let rest = same_total n (suc i) (λ x a b. other x (λ z. lt_irrefl x (omega (arith, is)))) in
      rw (← is)
      (cases (q i) (λ u. rw u (omega (arith, rest, rw (← is) at here))) (λ u. rw u (omega (arith, rest)))))
      (λ e.
      let off = eqb-false i j e in
      let rest = one_total j v here other n (suc i) (⊎_elim (λ z. absurd (off z)) (λ k. k) (eq-or-lt_of_le l)) (omega arith) in
      cases (q i) (λ u. rw u (omega (arith, rest, other i off))) (λ u. rw u rest))
