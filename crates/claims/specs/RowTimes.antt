-- The times of a plan's rows in the words of its lists: document 01, "Plans", with document 02, No. 3. The claims on times speak of a part, the rows of one VCPU;
-- here they are about row j of the caller's list, with its own deadline and with all earlier rows of its VCPU, and about the word that admission reports.
use Rattle.std.specs.Prelude.{ℕ, ◌+◌, ◌<◌, ◌≤◌, List, ◌≡◌, eqb, get_or, if◌then◌else◌}
use Rattle.refusal.specs.Reply.{Answers, Refuses}
use Rattle.supply.specs.Supply.{supply}
use Rattle.board.specs.declared.Board.{Board}
use Rattle.rows.specs.RowWords.{vcpu_period, budget, vcpu_of, task_period, deadline, cost, vcpu_rows, task_rows}
use Rattle.rows.specs.Reload.{arrival_charge}
use Rattle.times.specs.FirstTime.{At, Late}
use Rattle.times.specs.Times.{need, task_time, vcpu_need}
use Rattle.admission.specs.Admission.{admission_reply, judged}
use Rattle.claims.specs.Rounds.{Passes}

-- an earlier row of the same VCPU charges row j its cost and the reload that it causes
abbrev pub row_charge : ℕ → List ℕ → ℕ → ℕ → ℕ
row_charge reload tasks j k = if eqb (vcpu_of tasks k) (vcpu_of tasks j) then arrival_charge reload tasks j k else 0

-- the need of row j in t: its cost, and the arrivals of all earlier rows of its VCPU
abbrev pub row_need : ℕ → List ℕ → ℕ → ℕ → ℕ
row_need reload tasks j t = need (cost tasks j) (task_period tasks) (row_charge reload tasks j) j t

-- the least supply of its VCPU in t
abbrev pub row_supply : List ℕ → List ℕ → ℕ → ℕ → ℕ
row_supply vcpus tasks j t = supply (vcpu_period vcpus (vcpu_of tasks j)) (budget vcpus (vcpu_of tasks j)) t

-- t is the first microsecond whose supply covers the need, and no later than the deadline; and there is none up to the deadline
pub record IsFirst (supplied needed : ℕ → ℕ) (due t : ℕ) : Type 0 where
  pub from_1 : 1 ≤ t
  pub in_time : t ≤ due
  pub covers : needed t ≤ supplied t
  pub none_before : (s : ℕ) → 1 ≤ s → s < t → supplied s < needed s

abbrev pub NeverCovers : (ℕ → ℕ) → (ℕ → ℕ) → ℕ → Type 0
NeverCovers supplied needed due = (s : ℕ) → 1 ≤ s → s ≤ due → supplied s < needed s

pub record RowTimeClaims : Type 0 where
  -- An admitted plan: word i of the list of times is the time of VCPU i, and word j after those of the VCPUs is the time of row j of the task list, the
  -- first microsecond that will do for that very row.
  pub admitted_vcpu :
      (b : Board) (reload : ℕ) (vcpus tasks times rounds : List ℕ) → (judged b reload vcpus tasks times rounds).reply ≡ Answers tt
      → (i : ℕ) → i < vcpu_rows vcpus
      → IsFirst (λ (t : ℕ). t) (vcpu_need vcpus i) (vcpu_period vcpus i) (get_or (judged b reload vcpus tasks times rounds).times i 0)
  pub admitted_task :
      (b : Board) (reload : ℕ) (vcpus tasks times rounds : List ℕ) → (judged b reload vcpus tasks times rounds).reply ≡ Answers tt
      → (j : ℕ) → j < task_rows tasks
      → IsFirst (row_supply vcpus tasks j) (row_need reload tasks j) (deadline tasks j) (get_or (judged b reload vcpus tasks times rounds).times (vcpu_rows vcpus + j) 0)
  -- A plan refused with 21 or 22: of the row that it names there is a row, and no microsecond will do for it.
  pub late_vcpu :
      (b : Board) (reload : ℕ) (vcpus tasks : List ℕ) (room i : ℕ) → admission_reply b reload vcpus tasks room ≡ Refuses 21 i
      → (i < vcpu_rows vcpus) × NeverCovers (λ (t : ℕ). t) (vcpu_need vcpus i) (vcpu_period vcpus i)
  pub late_task :
      (b : Board) (reload : ℕ) (vcpus tasks : List ℕ) (room j : ℕ) → admission_reply b reload vcpus tasks room ≡ Refuses 22 j
      → (j < task_rows tasks) × NeverCovers (row_supply vcpus tasks j) (row_need reload tasks j) (deadline tasks j)
  -- The time of a row, whether the whole plan is admitted or not.
  pub row_time_is_first :
      (b : Board) (reload : ℕ) (vcpus tasks : List ℕ) (room : ℕ) → Passes b reload vcpus tasks room
      → (j t : ℕ) → j < task_rows tasks → task_time reload vcpus tasks j ≡ At t
      → IsFirst (row_supply vcpus tasks j) (row_need reload tasks j) (deadline tasks j) t
  pub row_late_is_late :
      (b : Board) (reload : ℕ) (vcpus tasks : List ℕ) (room : ℕ) → Passes b reload vcpus tasks room
      → (j : ℕ) → j < task_rows tasks → task_time reload vcpus tasks j ≡ Late
      → NeverCovers (row_supply vcpus tasks j) (row_need reload tasks j) (deadline tasks j)
