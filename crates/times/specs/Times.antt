-- Need, task time and VCPU time: document 01, "Plans", with document 02, No. 3. A task's rows are those of its VCPU's part, a VCPU's those of the whole list.
use Rattle.std.specs.Prelude.{ℕ, zero, suc, ◌+◌, ◌-◌, ◌*◌, ◌/◌, List, eqb, leb, if◌then◌else◌}
use Rattle.supply.specs.Supply.{supply}
use Rattle.rows.specs.RowWords.{core, vcpu_period, budget, vcpu_of, task_period, deadline, cost}
use Rattle.rows.specs.Reload.{arrival_charge}
use Rattle.rows.specs.Part.{part_start, part_of}
use Rattle.times.specs.FirstTime.{Time, first_time}

-- t / T rounded up
unfoldable pub arrivals : ℕ → ℕ → ℕ
arrivals t period = (t + (period - 1)) / period

-- the need of a task or VCPU: an own cost, and the first n rows' arrivals in t times the charge of one
unfoldable pub need : ℕ → (ℕ → ℕ) → (ℕ → ℕ) → ℕ → ℕ → ℕ
need own period charge zero t = own
need own period charge (suc j) t = need own period charge j t + arrivals t (period j) * charge j

-- the need of task i of a part in t: an arrival of an earlier task charges its cost and the reload that it causes (document 02, No. 3)
unfoldable pub task_need : ℕ → List ℕ → ℕ → ℕ → ℕ
task_need reload part i t = need (cost part i) (task_period part) (arrival_charge reload part i) i t

-- the first t from 1 to the deadline with supply at least the need
unfoldable pub time_in_part : ℕ → ℕ → ℕ → List ℕ → ℕ → Time
time_in_part p q reload part i = first_time (λ (t : ℕ). leb (task_need reload part i t) (supply p q t)) (deadline part i)

-- the time of row j of the task list: over the part of its VCPU alone
unfoldable pub task_time : ℕ → List ℕ → List ℕ → ℕ → Time
task_time reload vcpus tasks j =
    let v = vcpu_of tasks j in
    time_in_part (vcpu_period vcpus v) (budget vcpus v) reload (part_of tasks v) (j - part_start tasks v)

-- an earlier VCPU of the same core charges its budget
unfoldable pub vcpu_charge : List ℕ → ℕ → ℕ → ℕ
vcpu_charge vcpus i j = if eqb (core vcpus j) (core vcpus i) then budget vcpus j else 0

unfoldable pub vcpu_need : List ℕ → ℕ → ℕ → ℕ
vcpu_need vcpus i t = need (budget vcpus i) (vcpu_period vcpus) (vcpu_charge vcpus i) i t

-- the first t from 1 to the period with t, its supply in t, at least its need
unfoldable pub vcpu_time : List ℕ → ℕ → Time
vcpu_time vcpus i = first_time (λ (t : ℕ). leb (vcpu_need vcpus i t) t) (vcpu_period vcpus i)
