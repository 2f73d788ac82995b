-- `admission::row_times::task_time` meets its contract: the part of the row's VCPU is handed on to the search, for which it is fit (`FitRows`).
use Prim.Native.Nat.{ℕ}
use native.Mathlib.Omega.{arith}
use mathlib.Core.List.{List}
use mathlib.Core.Path.{◌≡◌, ap₂, ◌∙◌}
use Rattle.rows.specs.RowWords.{vcpu_of}
use Rattle.rows.specs.Part.{part_from, part_of}
use Rattle.rows.proofs.Parts.{part_at_start}
use Rattle.times.proofs.FitRows.{Fit, fit, fit_read, time_read, rounds_read}
use Rattle.admission.proofs.row_times.task_time.Goals as goal
use Rattle.admission.proofs.row_times.task_time.Goals.{Start, After-part_from-own}

fit_of : (c : Start) → Fit c.args.vcpus.now c.args.tasks.now c.args.j
fit_of c = fit c.args.reload c.args.vcpus.now c.args.tasks.now c.requires.0 c.args.j c.requires.1

-- the part that is handed on is that of the row's VCPU
own : (c : After-part_from-own) → c.part_from-own.result.now ≡ part_of c.args.tasks.now (vcpu_of c.args.tasks.now c.args.j)
own c =
    let t : List ℕ = c.args.tasks.now in
    c.part_from-own.ensures
    ∙ ap₂ (λ (i v : ℕ). part_from t i v) c.requires.2 c.task_word-v.ensures
    ∙ part_at_start t (vcpu_of t c.args.j)

pub overflow_cast-start : goal.overflow_cast-start
overflow_cast-start c = omega (arith, (fit_of (goal.at.overflow_cast-start c).Start).start, c.requires.2)

pub overflow_sub-j : goal.overflow_sub-j
overflow_sub-j c = omega (arith, (fit_of (goal.at.overflow_sub-j c).Start).start, c.requires.2)

pub time_in_part-requires : goal.time_in_part-requires
time_in_part-requires c =
    let p = goal.at.time_in_part-requires c in
    let a = c.args in
    let read = fit_read a.vcpus.now a.tasks.now _ a.j _ _ _ a.start c.task_word-v.ensures c.vcpu_word.ensures c.vcpu_word-2.ensures (own p.After-part_from-own) c.requires.2 (fit_of p.Start) in
    (read.0, read.1, c.requires.0.reload_high, read.2, read.3)

pub returns : goal.returns
returns c =
    let a = c.args in
    let v = c.task_word-v.ensures in
    let p = c.vcpu_word.ensures in
    let q = c.vcpu_word-2.ensures in
    let o = own (goal.at.returns c).After-part_from-own in
    record {
      found_value = c.time_in_part.ensures.found_value ∙ time_read a.vcpus.now a.tasks.now _ a.j _ _ _ a.start v p q o c.requires.2 a.reload;
      rounds_value = c.time_in_part.ensures.rounds_value ∙ rounds_read a.vcpus.now a.tasks.now _ a.j _ _ _ a.start v p q o c.requires.2 a.reload;
    }
