-- `admission::admit_rows` meets its contract: each return has the times that led there.
use mathlib.Core.Path.{sym, ◌∙◌}
use Rattle.admission.proofs.RefusalOrder.{vcpu_refused, task_refused, none_late}
use Rattle.admission.proofs.LentLists.{fronts, refused, length-times, length-rounds, all_found}
use Rattle.admission.proofs.admit_rows.Goals as goal

pub returns-in-Some : goal.returns-in-Some
returns-in-Some c = refused _ _ _ _ _ _ _ _ (vcpu_refused _ _ _ (sym c.vcpu_times.ensures.late_lem ∙ c.in-Some.is))

pub returns-in-Some-task_times : goal.returns-in-Some-task_times
returns-in-Some-task_times c =
    refused _ _ _ _ _ _ _ _
    (task_refused _ _ _ (sym c.vcpu_times.ensures.late_lem ∙ c.in_default.is) (sym c.task_times.ensures.late_lem ∙ c.in-Some-task_times.is))

pub returns : goal.returns
returns c =
    let a = c.args in
    let ok = none_late a.reload a.vcpus.now a.tasks.now (sym c.vcpu_times.ensures.late_lem ∙ c.in_default.is) (sym c.task_times.ensures.late_lem ∙ c.in_default-task_times.is) in
    let all = all_found a.reload a.vcpus.now a.tasks.now (rw c.in_default.is at c.vcpu_times.ensures) (rw c.in_default-task_times.is at c.task_times.ensures) in
    let n = length-times a.reload a.vcpus.now a.tasks.now in
    let m = length-rounds a.reload a.vcpus.now a.tasks.now in
    rw (c.copy_from_slice.ensures.after, c.copy_from_slice-2.ensures.after) (fronts _ _ _ _ _ _ _ _ _ all.0 n all.1 m ok)
