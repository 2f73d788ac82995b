-- `rows::own_rows::next_row` meets its contract: the rows passed did not pass the test, and the search ends at the first that does.
use Rattle.std.proofs.Common.{rules, refl, sym, ap, ◌∙◌, ℕ, Bool, ◌≡◌, ◌+◌, ◌*◌, ◌/◌, true, false, get_or, arith}
use native.Mathlib.Nat.{le_refl}
use Rattle.lists.proofs.CaseSplits.{below_or_not}
use Rattle.lists.proofs.RangeLoops.{sought_hit, sought_miss, sought_end}
use Rattle.rows.specs.RowWords.{vcpu_of, task_rows}
use Rattle.rows.proofs.own_rows.next_row.Goals as goal

pub loop-at-init : goal.loop-at-init
loop-at-init g c =
    let from = c.args.from in
    let n = task_rows c.args.tasks.now in (
      omega arith,
      omega (arith, c.min-at.ensures),
      refl,
      λ p told.
          let passes : ℕ → Bool = λ j. p (vcpu_of c.args.tasks.now j) in
          below_or_not from n
          (λ l. let here : 20 * c.min-at.result / 20 ≡ from = omega (arith, c.min-at.ensures) in rw here refl)
          (λ l. let end : 20 * c.min-at.result / 20 ≡ n = omega (arith, c.min-at.ensures) in rw end (sought_end passes from n l ∙ sym (sought_end passes n n (le_refl n)))),
    )

pub returns-then-passes : goal.returns-then-passes
returns-then-passes g c = λ p told.
    let h = c.loop-at in
    let place : 20 * (h.at / 20) + 0 ≡ h.at = omega (arith, h.invariant.0) in
    let hit : p (vcpu_of c.args.tasks.now (h.at / 20)) ≡ true = ap (λ (i : ℕ). p (get_or c.args.tasks.now i 0)) place ∙ sym (told _ _ c.passes.ensures) ∙ c.if-passes.true in
    sym (h.invariant.3 p told ∙ sought_hit _ _ _ (omega (arith, h.invariant.0)) hit)

pub loop-at-preserved : goal.loop-at-preserved
loop-at-preserved g c =
    let h = c.loop-at in
    let next : (h.at + 20) / 20 ≡ h.at / 20 + 1 = omega arith in (
      omega (arith, h.invariant.0),
      omega (arith, h.invariant.0),
      h.invariant.2,
      λ p told.
          let place : 20 * (h.at / 20) + 0 ≡ h.at = omega (arith, h.invariant.0) in
          let miss : p (vcpu_of c.args.tasks.now (h.at / 20)) ≡ false = ap (λ (i : ℕ). p (get_or c.args.tasks.now i 0)) place ∙ sym (told _ _ c.passes.ensures) ∙ c.if-passes.false in
          rw next (h.invariant.3 p told ∙ sought_miss _ _ _ (omega (arith, h.invariant.0)) miss),
    )

pub returns : goal.returns
returns g c = λ p told. sym (c.loop-at.invariant.3 p told ∙ sought_end _ _ _ (omega (arith, c.loop-at.invariant.0)))
