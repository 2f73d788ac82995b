-- The claims on how long admission can take: document 02, No. 9. `times/specs/Rounds.antt` says what a round is. The bound of a task is 2 and, for each earlier
-- row of its VCPU, the task's deadline over that row's period, rounded up, less 1; of a VCPU the same over the earlier rows of its core, with its
-- period for the deadline. A later deadline and shorter periods of earlier rows raise it.
use Rattle.std.specs.Prelude.{ℕ, zero, suc, ◌+◌, ◌-◌, ◌<◌, ◌≤◌, Bool, List, ◌++◌, ◌≡◌}
use Rattle.refusal.specs.Reply.{Answers}
use Rattle.board.specs.declared.Board.{Board}
use Rattle.board.specs.Tests.{board_reply}
use Rattle.supply.specs.Supply.{supply}
use Rattle.rows.specs.RowWords.{vcpu_period, budget, vcpu_of, deadline, vcpu_rows, task_rows}
use Rattle.rows.specs.Part.{part_start, part_of}
use Rattle.plan.specs.Tests.{plan_reply}
use Rattle.times.specs.Times.{task_need, vcpu_need}
use Rattle.times.specs.Rounds.{rounds_from, task_rounds, vcpu_rounds, rounds_bound, task_bound, vcpu_bound}
use Rattle.examples.specs.Table.{planned, vcpu, task}

-- a VCPU that has a whole core
abbrev pub whole : List ℕ
whole = vcpu 1000000 1000000

-- one earlier row that takes 999 of every 1,000 microseconds of a whole core, and one of cost 1,000 with 1,000,000 to its deadline
abbrev pub crowded : List ℕ
crowded = task 1000 1000 0x1 999 ++ task 1000000 1000000 0x2 1000

-- a row n times over, and one behind them
abbrev pub behind : ℕ → List ℕ → List ℕ → List ℕ
behind zero row last = last
behind (suc n) row last = row ++ behind n row last

-- n tasks that each take all of a whole core, and one that waits behind them for 1,000,000 microseconds; and the same as VCPUs
abbrev pub tasks_behind : ℕ → List ℕ
tasks_behind n = behind n (task 1 1 0x1 1) (task 1000000 1000000 0x2 1)

abbrev pub vcpus_behind : ℕ → List ℕ
vcpus_behind n = behind n (vcpu 1 1) (vcpu 1000000 1)

-- a plan that passes refusals 2 to 20, with lists of so much room: it is admitted, or refused with 21 or 22
abbrev pub Passes : Board → ℕ → List ℕ → List ℕ → ℕ → Type 0
Passes b reload vcpus tasks room = (board_reply b b.frames ≡ Answers tt) × (plan_reply b reload vcpus tasks room ≡ Answers tt)

pub record RoundClaims : Type 0 where
  -- The rounds of each row are within the bound, whether its search ends at a time or late.
  pub task_rounds_bounded :
      (b : Board) (reload : ℕ) (vcpus tasks : List ℕ) (room : ℕ) → Passes b reload vcpus tasks room
      → (j : ℕ) → j < task_rows tasks → task_rounds reload vcpus tasks j ≤ task_bound tasks j
  pub vcpu_rounds_bounded :
      (b : Board) (reload : ℕ) (vcpus tasks : List ℕ) (room : ℕ) → Passes b reload vcpus tasks room
      → (i : ℕ) → i < vcpu_rows vcpus → vcpu_rounds vcpus i ≤ vcpu_bound vcpus i
  -- The plans above pass, with 1 earlier row and with as many as there can be.
  pub plans_pass :
      Passes planned 0 whole crowded 3 × Passes planned 0 whole (tasks_behind 1) 3 × Passes planned 0 whole (tasks_behind 31) 33
      × Passes planned 0 (vcpus_behind 1) (task 1 1 0x1 1) 3 × Passes planned 0 (vcpus_behind 15) (task 1 1 0x1 1) 17
  -- The bound is reached: 1,001 rounds of 1,001.
  pub bound_is_reached : (task_rounds 0 whole crowded 1 ≡ 1001) × (task_bound crowded 1 ≡ 1001)
  -- A later deadline and shorter periods of earlier rows never lower it; a row whose period is the deadline or more adds nothing.
  pub bound_grows :
      (counts : ℕ → Bool) (period period' : ℕ → ℕ) (due due' n : ℕ) → due' ≤ due → ((j : ℕ) → j < n → (1 ≤ period j) × (period j ≤ period' j))
      → rounds_bound counts period' due' n ≤ rounds_bound counts period due n
  pub long_period_adds_nothing :
      (counts : ℕ → Bool) (period : ℕ → ℕ) (due n : ℕ) → 1 ≤ due → due ≤ period n → rounds_bound counts period due (suc n) ≡ rounds_bound counts period due n
  -- By its letter the bound is at most 30,999,971 for a task (31 earlier rows of period 1, deadline 1,000,000) and 14,999,987 for a VCPU (15 of them).
  pub most_task_bound :
      (b : Board) (reload : ℕ) (vcpus tasks : List ℕ) (room : ℕ) → Passes b reload vcpus tasks room
      → (j : ℕ) → j < task_rows tasks → task_bound tasks j ≤ 30999971
  pub most_vcpu_bound :
      (b : Board) (reload : ℕ) (vcpus tasks : List ℕ) (room : ℕ) → Passes b reload vcpus tasks room
      → (i : ℕ) → i < vcpu_rows vcpus → vcpu_bound vcpus i ≤ 14999987
  pub task_bound_at_most : task_bound (tasks_behind 31) 31 ≡ 30999971
  pub vcpu_bound_at_most : vcpu_bound (vcpus_behind 15) 15 ≡ 14999987
  -- But each round but the last goes to a later microsecond, so that no search takes more rounds than its deadline has microseconds, 1,000,000 at
  -- most; and that many are reached, by searches that end late.
  pub task_rounds_in_time :
      (b : Board) (reload : ℕ) (vcpus tasks : List ℕ) (room : ℕ) → Passes b reload vcpus tasks room
      → (j : ℕ) → j < task_rows tasks → task_rounds reload vcpus tasks j ≤ deadline tasks j
  pub vcpu_rounds_in_time : (vcpus : List ℕ) (i : ℕ) → vcpu_rounds vcpus i ≤ vcpu_period vcpus i
  pub a_million_task_rounds : task_rounds 0 whole (tasks_behind 1) 1 ≡ 1000000
  pub a_million_vcpu_rounds : vcpu_rounds (vcpus_behind 1) 1 ≡ 1000000
  -- A search ends by itself: with an allowance for m rounds more it takes no more.
  pub task_search_ends :
      (b : Board) (reload : ℕ) (vcpus tasks : List ℕ) (room : ℕ) → Passes b reload vcpus tasks room
      → (j m : ℕ) → j < task_rows tasks → let v = vcpu_of tasks j in let part = part_of tasks v in let i = j - part_start tasks v in
      rounds_from (supply (vcpu_period vcpus v) (budget vcpus v)) (task_need reload part i) (deadline part i) (deadline part i + m) 1
      ≡ task_rounds reload vcpus tasks j
  pub vcpu_search_ends :
      (b : Board) (reload : ℕ) (vcpus tasks : List ℕ) (room : ℕ) → Passes b reload vcpus tasks room
      → (i m : ℕ) → i < vcpu_rows vcpus
      → rounds_from (λ (t : ℕ). t) (vcpu_need vcpus i) (vcpu_period vcpus i) (vcpu_period vcpus i + m) 1 ≡ vcpu_rounds vcpus i
