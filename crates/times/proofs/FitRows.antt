-- A row of a valid plan is fit for the search: its VCPU's budget, and the rows of its part, over which its time and its rounds are.
use Prim.Native.Nat.{ℕ, ◌-◌, ◌<◌, ◌≤◌}
use native.Mathlib.Omega.{arith}
use mathlib.Core.List.{List}
use mathlib.Core.Path.{◌≡◌, refl, sym, ap}
use Rattle.supply.specs.Supply.{Budget}
use Rattle.rows.specs.RowWords.{vcpu_period, budget, vcpu_of, task_rows}
use Rattle.rows.specs.Part.{part_start, part_of}
use Rattle.rows.specs.ValidRows.{Tasks, Plan}
use Rattle.rows.proofs.Parts.{part_rows, part_tasks, row_in_part}
use Rattle.times.specs.Times.{time_in_part, task_time}
use Rattle.times.specs.Rounds.{rounds_in_part, task_rounds}

pub record Fit (vcpus tasks : List ℕ) (j : ℕ) : Type 0 where
  pub start : part_start tasks (vcpu_of tasks j) ≤ j
  pub budgeted : Budget (vcpu_period vcpus (vcpu_of tasks j)) (budget vcpus (vcpu_of tasks j))
  pub period : vcpu_period vcpus (vcpu_of tasks j) ≤ 1000000
  pub rows : Tasks (part_of tasks (vcpu_of tasks j))
  pub within : j - part_start tasks (vcpu_of tasks j) < task_rows (part_of tasks (vcpu_of tasks j))

pub fit : (reload : ℕ) (vcpus tasks : List ℕ) → Plan reload vcpus tasks → (j : ℕ) → j < task_rows tasks → Fit vcpus tasks j
fit reload vcpus tasks plan j h =
    let v : ℕ = vcpu_of tasks j in
    let r = plan.vcpu_rows_lem.row v (plan.names j h) in
    let inside = row_in_part tasks plan.ascending j h in
    record {
      start = inside.0;
      budgeted = record { some = r.budget_low; within = r.budget_high };
      period = r.period_high;
      rows = part_tasks tasks v plan.task_rows_lem;
      within = omega (arith, inside.0, inside.1, part_rows tasks v);
    }

-- a row's rounds are those in the part of its VCPU
pub rounds_over_part : (reload : ℕ) (vcpus tasks : List ℕ) (j : ℕ) → let v = vcpu_of tasks j in
    task_rounds reload vcpus tasks j ≡ rounds_in_part (vcpu_period vcpus v) (budget vcpus v) reload (part_of tasks v) (j - part_start tasks v)
unfolding task_rounds
rounds_over_part reload vcpus tasks j =
    let v : ℕ = vcpu_of tasks j in
    ap (λ (i : ℕ). rounds_in_part (vcpu_period vcpus v) (budget vcpus v) reload (part_of tasks v) i) (omega arith)

-- the same of numbers that are those of the row: its VCPU's period and budget, its part and where that starts
module _ (vcpus tasks own : List ℕ) (j v p q start : ℕ)
    (hv : v ≡ vcpu_of tasks j) (hp : p ≡ vcpu_period vcpus v) (hq : q ≡ budget vcpus v)
    (ho : own ≡ part_of tasks (vcpu_of tasks j)) (hs : start ≡ part_start tasks (vcpu_of tasks j)) where
  pub fit_read : Fit vcpus tasks j → Budget p q × (p ≤ 1000000) × Tasks own × (j - start < task_rows own)
  fit_read f = rw (hp, hq, hv, ho, hs) (f.budgeted, f.period, f.rows, f.within)

  pub time_read : (reload : ℕ) → time_in_part p q reload own (j - start) ≡ task_time reload vcpus tasks j
  unfolding task_time
  time_read reload = rw (hp, hq, hv, ho, hs) refl

  pub rounds_read : (reload : ℕ) → rounds_in_part p q reload own (j - start) ≡ task_rounds reload vcpus tasks j
  rounds_read reload = rw (hp, hq, hv, ho, hs) (sym (rounds_over_part reload vcpus tasks j))
