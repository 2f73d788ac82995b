-- `admission::need::need` meets its contract. The invariant: the sum is the need over the rows passed, which has a bound.
use Rattle.std.proofs.Common.{◌≡◌, ℕ, ◌+◌, ◌*◌, ◌≤◌, arith, refl, sym, ◌∙◌}
use mathlib.Core.Path.{ap₂}
use native.Mathlib.Nat.{le_trans, mul-le-mul}
use Rattle.times.specs.Times.{arrivals, need}
use Rattle.times.proofs.Needs.{arrivals_le, need_next}
use Rattle.admission.proofs.need.need.Goals as goal

-- what a row adds, and its bound
term_le : (a t period charge : ℕ) → a ≡ arrivals t period → t ≤ 1000000 → charge ≤ 1160000 → a * charge ≤ 1160000000000
term_le a t period charge e h k = rw e (mul-le-mul (le_trans (arrivals_le period t) h) k)

pub loop-j-init : goal.loop-j-init
unfolding need
loop-j-init g c = (omega arith, λ period charge told. refl)

pub overflow_mul-sum : goal.overflow_mul-sum
overflow_mul-sum g c =
    let row = c.requires.in_range c.loop-j.j c.earlier-period.result (omega arith) c.earlier-period.ensures in
    omega (arith, term_le c.arrivals.result c.args.t c.earlier-period.result.0 c.earlier-period.result.1 c.arrivals.ensures c.requires.ranges.1 row.charge_high)

pub overflow_add-sum : goal.overflow_add-sum
overflow_add-sum g c =
    let row = c.requires.in_range c.loop-j.j c.earlier-period.result (omega arith) c.earlier-period.ensures in
    omega (arith, c.requires.ranges, c.loop-j.invariant.0, term_le c.arrivals.result c.args.t c.earlier-period.result.0 c.earlier-period.result.1 c.arrivals.ensures c.requires.ranges.1 row.charge_high)

pub loop-j-preserved : goal.loop-j-preserved
loop-j-preserved g c =
    let h = c.loop-j in
    let row = c.requires.in_range h.j c.earlier-period.result (omega arith) c.earlier-period.ensures in (
      omega (arith, h.invariant.0, term_le c.arrivals.result c.args.t c.earlier-period.result.0 c.earlier-period.result.1 c.arrivals.ensures c.requires.ranges.1 row.charge_high),
      λ period charge told.
          let here = told h.j c.earlier-period.result (omega arith) c.earlier-period.ensures in
          ap₂ (λ (x y : ℕ). x + y) (h.invariant.1 period charge told) (rw (c.arrivals.ensures, here.0, here.1) refl)
          ∙ sym (need_next c.args.own period charge h.j c.args.t),
    )
