-- What refusals 15 to 19 leave of a plan: the ranges on which the code that works out a time relies.
use Rattle.std.specs.Prelude.{ℕ, ◌+◌, ◌<◌, ◌≤◌, List}
use Rattle.std.specs.Int.Count.{ones}
use Rattle.rows.specs.RowWords.{vcpu_period, budget, vcpu_of, task_period, deadline, colour_set, cost, vcpu_rows, task_rows}

pub record VcpuRow (vcpus : List ℕ) (i : ℕ) : Type 0 where
  pub period_high : vcpu_period vcpus i ≤ 1000000
  pub budget_low : 1 ≤ budget vcpus i
  pub budget_high : budget vcpus i ≤ vcpu_period vcpus i

pub record Vcpus (vcpus : List ℕ) : Type 0 where
  pub few : vcpu_rows vcpus ≤ 16
  pub row : (i : ℕ) → i < vcpu_rows vcpus → VcpuRow vcpus i

pub record TaskRow (tasks : List ℕ) (j : ℕ) : Type 0 where
  pub period_low : 1 ≤ task_period tasks j
  pub period_high : task_period tasks j ≤ 1000000
  pub due_low : 1 ≤ deadline tasks j
  pub due_high : deadline tasks j ≤ task_period tasks j
  pub colours_low : 1 ≤ ones (colour_set tasks j)
  pub colours_high : ones (colour_set tasks j) ≤ 16
  pub cost_low : 1 ≤ cost tasks j
  pub cost_high : cost tasks j ≤ 1000000

-- of a task list, or of a part of one
pub record Tasks (tasks : List ℕ) : Type 0 where
  pub few : task_rows tasks ≤ 32
  pub row : (j : ℕ) → j < task_rows tasks → TaskRow tasks j

-- no row names a lower VCPU than the row before
abbrev pub AscendingVcpus : List ℕ → Type 0
AscendingVcpus tasks = (j : ℕ) → j + 1 < task_rows tasks → vcpu_of tasks j ≤ vcpu_of tasks (j + 1)

pub record Plan (reload : ℕ) (vcpus tasks : List ℕ) : Type 0 where
  pub reload_high : reload ≤ 10000
  pub vcpu_rows_lem : Vcpus vcpus
  pub task_rows_lem : Tasks tasks
  pub names : (j : ℕ) → j < task_rows tasks → vcpu_of tasks j < vcpu_rows vcpus
  pub ascending : AscendingVcpus tasks
