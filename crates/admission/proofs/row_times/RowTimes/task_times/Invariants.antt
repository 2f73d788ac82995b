-- `admission::row_times::RowTimes::task_times` meets its contract. The invariant: no row passed is late, and their times stand after those known
-- (`RowLoops`); no row before `start` is of a VCPU that is still to come.
use Prim.Native.Nat.{ℕ, ◌<◌, ◌≤◌}
use mathlib.Core.Bool.{false}
use mathlib.Core.Path.{◌≡◌}
use Rattle.rows.specs.RowWords.{vcpu_of, task_rows}
use Rattle.rows.specs.Part.{is_row_of}
use Rattle.times.specs.Times.{task_time}
use Rattle.times.specs.Rounds.{task_rounds}
use Rattle.admission.proofs.RowLoops.{Timing}
use Rattle.admission.proofs.row_times.RowTimes.task_times.Given as goal

abbrev pub invariant-loop-j : goal.invariant-loop-j
invariant-loop-j l =
    Timing (task_time l.reload l.vcpus l.tasks) (task_rounds l.reload l.vcpus l.tasks) l.rows l.first l.initial.self l.j l.self
    × (l.start ≤ l.rows) × ((m : ℕ) → m < l.start → (k : ℕ) → l.j ≤ k → k < task_rows l.tasks → is_row_of l.tasks (vcpu_of l.tasks k) m ≡ false)
