-- `plan::fields::bad_costs` meets its contract: the test of the code is that of the definition, and it leaves no cost above the one before.
use Rattle.std.proofs.Common.{◌≡◌, ◌+◌, ◌-◌, ◌≤◌, false, refl, sym, ap, ◌∙◌, arith}
use lib.Dec.{eqb, ltb}
use borrow.Author.Tests.{ltb-false}
use Rattle.lists.proofs.RangeLoops.{any_ahead, any_hit, any_miss, any_end}
use Rattle.lists.proofs.CaseSplits.{neither}
use Rattle.rows.specs.RowWords.{cost_with}
use Rattle.plan.specs.Tests.{zero_or_above, bad_cost}
use Rattle.plan.proofs.Sharing.{cost_test}
use Rattle.plan.proofs.fields.bad_costs.Goals as goal
use Rattle.plan.proofs.fields.bad_costs.Goals.{After-zero_or_above}

-- the test of the code is that of the definition
asked : (c : After-zero_or_above) → bad_cost c.args.tasks.now c.args.row c.loop-k.k ≡ c.zero_or_above.result
asked c =
    let a = c.args in
    let h = c.loop-k in
    cost_test h.k h.before (cost_with a.tasks.now a.row (h.k - 1)) (cost_with a.tasks.now a.row h.k) h.invariant.0 h.invariant.3 h.invariant.4 h.invariant.5
    ∙ ap (zero_or_above h.before) (sym c.known_word-cost.ensures)
    ∙ sym c.zero_or_above.ensures

pub loop-k-init : goal.loop-k-init
unfolding any_ahead
loop-k-init c = (omega arith, omega arith, refl, omega arith, (λ e. refl), (λ l. absurd (omega arith)))

pub returns-then-zero_or_above : goal.returns-then-zero_or_above
returns-then-zero_or_above c =
    let a = c.args in
    let h = c.loop-k in
    let here = asked (goal.at.returns-then-zero_or_above c).After-zero_or_above ∙ c.if-zero_or_above.true in
    sym (h.invariant.2 ∙ any_hit (bad_cost a.tasks.now a.row) h.k 17 (omega arith) here)

pub loop-k-preserved : goal.loop-k-preserved
loop-k-preserved c =
    let a = c.args in
    let h = c.loop-k in
    let cost = c.known_word-cost in
    let here = asked (goal.at.loop-k-preserved c).After-zero_or_above ∙ c.if-zero_or_above.false in
    let kept : zero_or_above h.before cost.result ≡ false = sym c.zero_or_above.ensures ∙ c.if-zero_or_above.false in
    let low : cost.result ≤ h.before = ltb-false h.before cost.result (neither (eqb cost.result 0) (ltb h.before cost.result) kept).1 in
    let back : h.k + 1 - 1 ≡ h.k = omega arith in (
      omega arith,
      omega arith,
      h.invariant.2 ∙ any_miss (bad_cost a.tasks.now a.row) h.k 17 (omega arith) here,
      omega (arith, h.invariant.3),
      (λ e. absurd (omega (arith, h.invariant.0, e))),
      λ l. cost.ensures ∙ ap (cost_with a.tasks.now a.row) (sym back),
    )

pub returns : goal.returns
returns c =
    let a = c.args in
    let h = c.loop-k in
    sym (h.invariant.2 ∙ any_end (bad_cost a.tasks.now a.row) h.k 17 (omega arith))
