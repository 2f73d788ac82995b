-- What number and row of each test have, a refusal by these tests has; and the lists of tests of boards and plans, number by number.
use Prim.Native.Nat.{ℕ, zero, suc}
use native.Mathlib.Nat.{lt_irrefl}
use native.Mathlib.Omega.{arith}
use mathlib.Core.Bool.{Bool}
use mathlib.Core.List.{List, [], ◌∷◌, ◌++◌, map}
use mathlib.Core.Path.{◌≡◌}
use Rattle.lists.specs.Range.{from}
use Rattle.lists.proofs.CaseSplits.{cases}
use Rattle.refusal.specs.Reply.{Refuses, Test, each, unless}
use Rattle.board.specs.declared.Board.{Board}
use Rattle.board.specs.Tests.{bad_grant, shares_with_another, bad_active, domain_tests, board_tests}
use Rattle.rows.specs.RowWords.{vcpu_rows, task_rows}
use Rattle.plan.specs.Tests.{bad_vcpu, bad_task, bad_order, shares_colour, row_tests, plan_tests}

module _ (P : ℕ → ℕ → Type 0) where
  abbrev pub AllTests : List Test → Type 0
  AllTests [] = Unit {0}
  AllTests (t ∷ ts) = P t.number t.row × AllTests ts

  pub refusal_has : {A : Type 0} (ts : List Test) (a : A) → AllTests ts → (n r : ℕ) → unless ts a ≡ Refuses n r → P n r
  unfolding unless
  refusal_has [] a p n r e = let apart : ◌≡◌ {A = ℕ} 0 1 = cc in absurd (lt_irrefl 0 (omega arith))
  refusal_has (t ∷ ts) a p n r e =
      cases t.fails
      (λ f. let same : (t.number ≡ n) × (t.row ≡ r) = (cc (rw f at e), cc (rw f at e)) in rw (← same.0, ← same.1) p.0)
      (λ f. refusal_has ts a p.1 n r (rw f at e))

  pub both : (xs ys : List Test) → AllTests xs → AllTests ys → AllTests (xs ++ ys)
  both [] ys p q = q
  both (x ∷ xs) ys p q = (p.0, both xs ys p.1 q)

  -- one test for each domain or row
  module _ (number : ℕ) (fails : ℕ → Bool) (has : (r : ℕ) → P number r) where
    from_rows : (n i : ℕ) → AllTests (map (λ (r : ℕ). record { number = number; row = r; fails = fails r }) (from i n))
    unfolding from
    from_rows zero i = tt
    from_rows (suc n) i = (has i, from_rows n (suc i))

    pub each_has : (n : ℕ) → AllTests (each n number fails)
    unfolding each
    each_has n = from_rows n 0

  -- 2 to 7
  pub board_has : P 2 0 × P 3 0 × P 4 0 × ((r : ℕ) → P 5 r) × ((r : ℕ) → P 6 r) × ((r : ℕ) → P 7 r) → (b : Board) (words : ℕ) → AllTests (board_tests b words)
  unfolding board_tests domain_tests
  board_has p b words =
      let n : ℕ = b.domains in
      let six : List Test = each n 6 (shares_with_another b) in
      let seven : List Test = each n 7 (bad_active b) in (
        p.0,
        (
          p.1,
          (
            p.2,
            both (each n 5 (bad_grant b)) (six ++ seven) (each_has 5 (bad_grant b) p.3 n) (both six seven (each_has 6 (shares_with_another b) p.4 n) (each_has 7 (bad_active b) p.5 n)),
          ),
        ),
      )

  -- 15 to 20
  pub plan_has : P 15 0 × P 16 0 × ((r : ℕ) → P 17 r) × ((r : ℕ) → P 18 r) × ((r : ℕ) → P 19 r) × ((r : ℕ) → P 20 r)
      → (b : Board) (reload : ℕ) (vcpus tasks : List ℕ) (room : ℕ) → AllTests (plan_tests b reload vcpus tasks room)
  unfolding plan_tests row_tests
  plan_has p b reload vcpus tasks room =
      let n : ℕ = task_rows tasks in
      let eighteen : List Test = each n 18 (bad_task b vcpus tasks) in
      let nineteen : List Test = each n 19 (bad_order tasks) in
      let twenty : List Test = each n 20 (shares_colour tasks) in (
        p.0,
        (
          p.1,
          both (each (vcpu_rows vcpus) 17 (bad_vcpu b vcpus)) (eighteen ++ (nineteen ++ twenty)) (each_has 17 (bad_vcpu b vcpus) p.2 (vcpu_rows vcpus))
              (both eighteen (nineteen ++ twenty) (each_has 18 (bad_task b vcpus tasks) p.3 n)
              (both nineteen twenty (each_has 19 (bad_order tasks) p.4 n) (each_has 20 (shares_colour tasks) p.5 n))),
        ),
      )
