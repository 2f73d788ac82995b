-- `admission::row_times::RowTimes::vcpu_times` meets its contract. The invariant: no row passed is late, and their times stand at the front (`RowLoops`).
use native.Mathlib.Nat.{zero-add}
use native.Mathlib.Omega.{arith}
use mathlib.Core.Path.{refl, sym, ap, ◌∙◌}
use Rattle.admission.specs.Paper.{paper_found}
use Rattle.admission.proofs.RowLoops.{timing_start, timing_next, timing_late, timing_end}
use Rattle.admission.proofs.row_times.RowTimes.vcpu_times.Goals as goal

pub loop-i-init : goal.loop-i-init
loop-i-init c = timing_start _ _ _ _ _ refl refl c.requires.2

pub returns-in_default : goal.returns-in_default
returns-in_default c = timing_late _ _ _ _ _ c.loop-i.invariant (omega arith) (sym c.vcpu_time-search.ensures.found_value ∙ ap paper_found c.in_default.is)

pub loop-i-preserved : goal.loop-i-preserved
loop-i-preserved c =
    timing_next _ _ _ _ _ _ _ _ c.keep.ensures.times c.keep.ensures.rounds (sym (zero-add c.loop-i.i)) (omega (arith, c.requires.0.few)) c.loop-i.invariant (omega arith)
    (sym c.vcpu_time-search.ensures.found_value ∙ ap paper_found c.in-Some.is) c.vcpu_time-search.ensures.rounds_value

pub returns : goal.returns
returns c = timing_end _ _ _ _ _ c.loop-i.invariant (omega arith)
