-- An array of sixteen that a loop fills from the front: the entries before the one come to are what they shall be, and those from it on what they were.
use Prim.Native.Nat.{ℕ, ◌+◌, ◌<◌, ◌≤◌}
use native.Mathlib.Nat.{lt_irrefl, eq-or-lt_of_le, not-suc-le-zero}
use native.Mathlib.Omega.{arith}
use mathlib.Core.List.{List}
use mathlib.Core.Logic.{⊎_elim}
use mathlib.Core.Path.{◌≡◌, ◌∙◌}
use lib.Dec.{eqb}
use lib.ListN.{length, get_or, set, replicate, length-set, length-replicate, get_or-replicate}
use lib.Seq.{get_or-set_same, get_or-set_other}
use borrow.Author.Tests.{eqb-true, eqb-false}
use Rattle.lists.proofs.CaseSplits.{cases}

pub record Filled (value : ℕ → ℕ) (rest : ℕ) (xs : List ℕ) (i : ℕ) : Type 0 where
  pub size : length xs ≡ 16
  pub front : (x : ℕ) → x < i → get_or xs x 0 ≡ value x
  pub back : (x : ℕ) → i ≤ x → x < 16 → get_or xs x 0 ≡ rest

module _ (value : ℕ → ℕ) (rest : ℕ) where
  pub fill_start : Filled value rest (replicate 16 rest) 0
  fill_start =
      record {
        size = length-replicate 16 rest;
        front = λ x l. absurd (not-suc-le-zero l);
        back = λ x l h. get_or-replicate {A = ℕ} 16 x rest 0 h;
      }

  pub fill_next : {xs : List ℕ} {i : ℕ} (v : ℕ) → Filled value rest xs i → i < 16 → v ≡ value i → Filled value rest (set xs i v) (i + 1)
  fill_next {xs} {i} v r l e =
      record {
        size = length-set xs i v ∙ r.size;
        front = λ x h.
            cases (eqb x i)
            (λ o. let q = eqb-true x i o in rw (q, get_or-set_same xs i v 0 (omega (arith, r.size, l))) e)
            (λ o. let q = eqb-false x i o in get_or-set_other xs i x v 0 q ∙ r.front x (less x i q h));
        back = λ x h m. get_or-set_other xs i x v 0 (λ z. lt_irrefl x (omega arith)) ∙ r.back x (omega arith) m;
      }
    where
      less : (x i : ℕ) → (x ≡ i → ⊥) → x < i + 1 → x < i
      less x i off h = ⊎_elim (λ z. absurd (off z)) (λ m. m) (eq-or-lt_of_le (omega arith))
