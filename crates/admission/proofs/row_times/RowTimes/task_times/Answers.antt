-- `admission::row_times::RowTimes::task_times` meets its contract. The invariant: no row passed is late, and their times stand after those known
-- (`RowLoops`); no row before `start` is of a VCPU that is still to come.
use Prim.Native.Nat.{ℕ}
use native.Mathlib.Nat.{le_refl, not-suc-le-zero}
use native.Mathlib.Omega.{arith}
use mathlib.Core.List.{List}
use mathlib.Core.Path.{◌≡◌, refl, sym, ap, ◌∙◌}
use Rattle.rows.specs.RowWords.{vcpu_of}
use Rattle.rows.specs.Part.{next_own, part_start}
use Rattle.rows.proofs.Parts.{start_le, start_from, before_part}
use Rattle.admission.specs.Paper.{paper_found}
use Rattle.admission.proofs.RowLoops.{timing_start, timing_next, timing_late, timing_end}
use Rattle.admission.proofs.row_times.RowTimes.task_times.Goals as goal
use Rattle.admission.proofs.row_times.RowTimes.task_times.Goals.{After-next_own-start}

-- the part of the row's VCPU starts at the row that was found
starts : (c : After-next_own-start) → c.next_own-start.result ≡ part_start c.args.tasks.now (vcpu_of c.args.tasks.now c.loop-j.j)
starts c =
    let h = c.loop-j in
    let t : List ℕ = c.args.tasks.now in
    c.next_own-start.ensures
    ∙ ap (λ (v : ℕ). next_own t h.start v) c.task_word.ensures
    ∙ start_from t (vcpu_of t h.j) h.start (omega arith) (λ m l. h.invariant.2 m l h.j (le_refl h.j) (omega arith))

pub loop-j-init : goal.loop-j-init
loop-j-init c = (timing_start _ _ _ _ _ refl refl c.requires.3, omega arith, λ m l. absurd (not-suc-le-zero l))

pub task_time-search-requires : goal.task_time-search-requires
task_time-search-requires c = (c.requires.0, omega (arith, c.requires.2), starts (goal.at.task_time-search-requires c).After-next_own-start)

pub returns-in_default : goal.returns-in_default
returns-in_default c = timing_late _ _ _ _ _ c.loop-j.invariant.0 (omega arith) (sym c.task_time-search.ensures.found_value ∙ ap paper_found c.in_default.is)

pub loop-j-preserved : goal.loop-j-preserved
loop-j-preserved c =
    let h = c.loop-j in
    let tasks : List ℕ = c.args.tasks.now in
    let at = starts (goal.at.loop-j-preserved c).After-next_own-start in (
      timing_next _ _ _ _ _ _ _ _ c.keep.ensures.times c.keep.ensures.rounds refl (omega (arith, c.requires.1, c.requires.2, c.requires.0.task_rows_lem.few)) h.invariant.0 (omega arith)
          (sym c.task_time-search.ensures.found_value ∙ ap paper_found c.in-Some.is) c.task_time-search.ensures.rounds_value,
      omega (arith, at, start_le tasks (vcpu_of tasks h.j), c.requires.2),
      (λ m l k g n. before_part tasks c.requires.0.ascending h.j k m (omega arith) n (omega (arith, at, l))),
    )

pub returns : goal.returns
returns c = timing_end _ _ _ _ _ c.loop-j.invariant.0 (omega arith)
