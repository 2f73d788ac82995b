-- The claims on supply and on times: document 01, "Plans", with the need of document 02, No. 3. A part is the rows of one VCPU, and i one of its rows.
use Rattle.std.specs.Prelude.{ℕ, ◌+◌, ◌-◌, ◌*◌, ◌<◌, ◌≤◌, List, ◌++◌, ◌≡◌, length}
use Rattle.std.specs.Int.Count.{ones}
use Rattle.supply.specs.Supply.{supply, first_supply, Budget}
use Rattle.rows.specs.RowWords.{vcpu_period, task_period, deadline, colour_set, cost, task_rows}
use Rattle.rows.specs.Reload.{reloaded}
use Rattle.times.specs.FirstTime.{At, Late, NoLater}
use Rattle.times.specs.Times.{task_need, time_in_part, task_time, vcpu_need, vcpu_time}

pub record SupplyClaims : Type 0 where
  -- Nothing in the first P − Q microseconds, never more than the time, never falling, and at most 1 more a microsecond.
  pub supply_early : (p q t : ℕ) → Budget p q → t ≤ p - q → supply p q t ≡ 0
  pub supply_le : (p q t : ℕ) → Budget p q → supply p q t ≤ t
  pub supply_mono : (p q t u : ℕ) → Budget p q → t ≤ u → supply p q t ≤ supply p q u
  pub supply_step : (p q t : ℕ) → Budget p q → supply p q (t + 1) ≤ supply p q t + 1
  -- A larger budget supplies no less.
  pub supply_budget : (p q q' t : ℕ) → Budget p q → q ≤ q' → q' ≤ p → supply p q t ≤ supply p q' t
  -- `first_supply` is the first microsecond in which the supply is x.
  pub first_supplies : (p q x : ℕ) → Budget p q → 0 < x → x ≤ supply p q (first_supply p q x)
  pub none_before : (p q x t : ℕ) → Budget p q → 0 < x → x ≤ supply p q t → first_supply p q x ≤ t

pub record TimeClaims : Type 0 where
  -- A reported time of a task: the supply in it covers the need, and in no earlier microsecond.
  pub time_is_first :
      (p q reload : ℕ) (part : List ℕ) (i t : ℕ) → time_in_part p q reload part i ≡ At t
      → (1 ≤ t) × (t ≤ deadline part i) × (task_need reload part i t ≤ supply p q t)
      × ((s : ℕ) → 1 ≤ s → s < t → supply p q s < task_need reload part i s)
  -- Late: in no microsecond from 1 to the deadline.
  pub late_is_late :
      (p q reload : ℕ) (part : List ℕ) (i : ℕ) → time_in_part p q reload part i ≡ Late
      → (s : ℕ) → 1 ≤ s → s ≤ deadline part i → supply p q s < task_need reload part i s
  -- The same of a VCPU, whose supply in t is t.
  pub vcpu_time_is_first :
      (vcpus : List ℕ) (i t : ℕ) → vcpu_time vcpus i ≡ At t
      → (1 ≤ t) × (t ≤ vcpu_period vcpus i) × (vcpu_need vcpus i t ≤ t) × ((s : ℕ) → 1 ≤ s → s < t → s < vcpu_need vcpus i s)
  pub vcpu_late_is_late :
      (vcpus : List ℕ) (i : ℕ) → vcpu_time vcpus i ≡ Late → (s : ℕ) → 1 ≤ s → s ≤ vcpu_period vcpus i → s < vcpu_need vcpus i s
  -- Lower costs, a lower reload and fewer colours reloaded never make a task's time later, where periods and its deadline stay.
  pub less_is_no_later :
      (p q reload reload' : ℕ) (part part' : List ℕ) (i : ℕ)
      → deadline part i ≡ deadline part' i → reload' ≤ reload → cost part' i ≤ cost part i
      → ((j : ℕ) → j < i → (task_period part' j ≡ task_period part j) × (cost part' j ≤ cost part j) × (reloaded part' i j ≤ reloaded part i j))
      → NoLater (time_in_part p q reload part i) (time_in_part p q reload' part' i)
  -- A larger budget of the VCPU never makes a task's time later.
  pub budget_is_no_later :
      (p q q' reload : ℕ) (part : List ℕ) (i : ℕ) → Budget p q → q ≤ q' → q' ≤ p
      → NoLater (time_in_part p q reload part i) (time_in_part p q' reload part i)
  -- Words added at the end of a task list of whole rows change no other task's time.
  pub added_rows_change_nothing :
      (tasks more : List ℕ) → length tasks ≡ 20 * task_rows tasks → (j : ℕ) → j < task_rows tasks
      → (reload : ℕ) (vcpus : List ℕ) → ((k : ℕ) → k < task_rows tasks → ones (colour_set tasks k) ≤ 16)
      → task_time reload vcpus (tasks ++ more) j ≡ task_time reload vcpus tasks j
