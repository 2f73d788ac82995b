-- What a planner relies on of rounds: the bound of a task and of a VCPU, in searches that end late too, the most that it comes to
-- within the limits of document 01, that no search takes more rounds than its deadline has microseconds, and plans that reach both.
use Prim.Native.Nat.{ℕ, zero, suc, ◌+◌, ◌-◌, ◌*◌, ◌<◌, ◌≤◌}
use native.Mathlib.Nat.{le_refl, le_trans, mul-le-mul, suc-mul}
use native.Mathlib.Omega.{arith}
use mathlib.Core.Bool.{Bool, true, false, true≢false}
use mathlib.Core.List.{List}
use mathlib.Core.Path.{◌≡◌, refl, sym, ◌∙◌}
use lib.Dec.{eqb}
use borrow.Author.Tests.{eq-eqb, eqb-false}
use Rattle.lists.proofs.CaseSplits.{cases}
use Rattle.supply.specs.Supply.{supply, Budget}
use Rattle.rows.specs.RowWords.{core, vcpu_period, budget, vcpu_of, task_period, deadline, cost, vcpu_rows, task_rows}
use Rattle.rows.specs.Reload.{arrival_charge}
use Rattle.rows.specs.Part.{part_start, part_end, part_of}
use Rattle.rows.specs.ValidRows.{Tasks, Vcpus, AscendingVcpus, Plan}
use Rattle.rows.proofs.Parts.{none_before, part_word, part_own, row_in_part}
use Rattle.times.specs.Times.{arrivals, task_need, vcpu_charge, vcpu_need}
use Rattle.times.specs.Rounds.{rounds_from, rounds, rounds_in_part, task_rounds, vcpu_rounds, rounds_bound, task_bound, vcpu_bound}
use Rattle.times.proofs.Needs.{arrivals_mono, arrivals_least, arrivals_fall, arrivals_le}
use Rattle.times.proofs.Bounds.{task_search, other_core, vcpu_search}
use Rattle.times.proofs.CountedRounds.{allowed, ends_by_itself}
use Rattle.times.proofs.RoundsBound.{rounds_bounded}
use Rattle.times.proofs.FitRows.{fit, rounds_over_part}

-- rows that do not count add nothing
none_count : (counts : ℕ → Bool) (period : ℕ → ℕ) (due n : ℕ) → ((k : ℕ) → k < n → counts k ≡ false) → rounds_bound counts period due n ≡ 2
unfolding rounds_bound
none_count counts period due zero none = refl
none_count counts period due (suc n) none =
    rw (none n (omega arith), none_count counts period due n (λ k l. none k (omega arith))) refl

-- the bound over a list is that over a part of it, where the rows before the part do not count and those of the part do
bound_in_part : (counts : ℕ → Bool) (period own : ℕ → ℕ) (due start m : ℕ) → ((k : ℕ) → k < start → counts k ≡ false)
    → ((k : ℕ) → k < m → (counts (start + k) ≡ true) × (own k ≡ period (start + k)))
    → rounds_bound (λ (k : ℕ). true) own due m ≡ rounds_bound counts period due (start + m)
unfolding rounds_bound
bound_in_part counts period own due start zero none part =
    let all : start + 0 ≡ start = omega arith in rw all (sym (none_count counts period due start none))
bound_in_part counts period own due start (suc m) none part =
    let last = part m (omega arith) in
    let next : start + suc m ≡ suc (start + m) = omega arith in
    rw (next, last.0, last.1, bound_in_part counts period own due start m none (λ k l. part k (omega arith))) refl

-- over a part
pub part_rounds_bounded : (p q reload : ℕ) (part : List ℕ) (i : ℕ) → Budget p q → Tasks part → i < task_rows part
    → rounds_in_part p q reload part i ≤ rounds_bound (λ (j : ℕ). true) (task_period part) (deadline part i) i
unfolding rounds_in_part task_need
part_rounds_bounded p q reload part i b rows here =
    rounds_bounded (λ (j : ℕ). true) (task_period part) (cost part i) (arrival_charge reload part i) (λ j e. absurd (true≢false e)) i (deadline part i)
    (task_search p q reload part i b rows here) (rows.row i here).due_low (λ j l. (rows.row j (omega arith)).period_low)

-- a row's deadline in the part of its VCPU
due_in_part : (tasks : List ℕ) → AscendingVcpus tasks → (j : ℕ) → j < task_rows tasks → let v = vcpu_of tasks j in
    deadline (part_of tasks v) (j - part_start tasks v) ≡ deadline tasks j
due_in_part tasks up j h =
    let v : ℕ = vcpu_of tasks j in
    let inside = row_in_part tasks up j h in
    let at : part_start tasks v + (j - part_start tasks v) ≡ j = omega (arith, inside.0) in
    rw at at (part_word tasks v (j - part_start tasks v) 2 (omega (arith, inside.0, inside.1)) (omega arith))

pub task_rounds_bounded : (reload : ℕ) (vcpus tasks : List ℕ) → Plan reload vcpus tasks → (j : ℕ) → j < task_rows tasks
    → task_rounds reload vcpus tasks j ≤ task_bound tasks j
unfolding task_bound
task_rounds_bounded reload vcpus tasks plan j h =
    let v : ℕ = vcpu_of tasks j in
    let start : ℕ = part_start tasks v in
    let inside = row_in_part tasks plan.ascending j h in
    let f = fit reload vcpus tasks plan j h in
    let at : start + (j - start) ≡ j = omega (arith, inside.0) in
    let same = bound_in_part (λ (k : ℕ). eqb (vcpu_of tasks k) v) (task_period tasks) (task_period (part_of tasks v)) (deadline tasks j) start (j - start)
    (none_before tasks v)
    (λ k l. let own : k < part_end tasks v - start = omega (arith, l, inside.0, inside.1) in (eq-eqb _ v (part_own tasks v k own), part_word tasks v k 1 own (omega arith))) in
    rw (rounds_over_part reload vcpus tasks j)
    (rw (due_in_part tasks plan.ascending j h, same, at) at (part_rounds_bounded _ _ reload (part_of tasks v) (j - start) f.budgeted f.rows f.within))

pub vcpu_rounds_bounded : (vcpus : List ℕ) → Vcpus vcpus → (i : ℕ) → i < vcpu_rows vcpus → vcpu_rounds vcpus i ≤ vcpu_bound vcpus i
unfolding vcpu_rounds vcpu_bound vcpu_need
vcpu_rounds_bounded vcpus rows i here =
    rounds_bounded (λ (k : ℕ). eqb (core vcpus k) (core vcpus i)) (vcpu_period vcpus) (budget vcpus i) (vcpu_charge vcpus i) (λ j e. other_core vcpus i j (eqb-false (core vcpus j) (core vcpus i) e)) i (vcpu_period vcpus i)
    (vcpu_search vcpus i rows here) (has_period i here) (λ j l. has_period j (omega arith))
  where
    has_period : (j : ℕ) → j < vcpu_rows vcpus → 1 ≤ vcpu_period vcpus j
    has_period j l = le_trans (rows.row j l).budget_low (rows.row j l).budget_high

-- the most that the bound comes to: each row that counts adds less than the deadline
bound_le : (counts : ℕ → Bool) (period : ℕ → ℕ) (due n : ℕ) → rounds_bound counts period due n ≤ 2 + n * (due - 1)
unfolding rounds_bound
bound_le counts period due zero = omega arith
bound_le counts period due (suc n) =
    let rest = bound_le counts period due n in
    let each = suc-mul n (due - 1) in
    cases (counts n)
    (λ e. rw e (omega (arith, rest, each, arrivals_le (period n) due)))
    (λ e. rw e (omega (arith, rest, each)))

pub most_task_bound : (tasks : List ℕ) → Tasks tasks → (j : ℕ) → j < task_rows tasks → task_bound tasks j ≤ 30999971
unfolding task_bound
most_task_bound tasks rows j h =
    let r = rows.row j h in
    let due : deadline tasks j - 1 ≤ 999999 = omega (arith, r.due_high, r.period_high) in
    let earlier : j ≤ 31 = omega (arith, h, rows.few) in
    omega (arith, bound_le (λ (k : ℕ). eqb (vcpu_of tasks k) (vcpu_of tasks j)) (task_period tasks) (deadline tasks j) j, mul-le-mul earlier due)

pub most_vcpu_bound : (vcpus : List ℕ) → Vcpus vcpus → (i : ℕ) → i < vcpu_rows vcpus → vcpu_bound vcpus i ≤ 14999987
unfolding vcpu_bound
most_vcpu_bound vcpus rows i h =
    let due : vcpu_period vcpus i - 1 ≤ 999999 = omega (arith, (rows.row i h).period_high) in
    let earlier : i ≤ 15 = omega (arith, h, rows.few) in
    omega (arith, bound_le (λ (k : ℕ). eqb (core vcpus k) (core vcpus i)) (vcpu_period vcpus) (vcpu_period vcpus i) i, mul-le-mul earlier due)

-- no search takes more rounds than its deadline has microseconds
pub task_rounds_in_time : (reload : ℕ) (vcpus tasks : List ℕ) → Plan reload vcpus tasks → (j : ℕ) → j < task_rows tasks
    → task_rounds reload vcpus tasks j ≤ deadline tasks j
unfolding rounds_in_part rounds
task_rounds_in_time reload vcpus tasks plan j h =
    rw (rounds_over_part reload vcpus tasks j, ← (due_in_part tasks plan.ascending j h)) (allowed _ _ _ _ 1)

pub vcpu_rounds_in_time : (vcpus : List ℕ) (i : ℕ) → vcpu_rounds vcpus i ≤ vcpu_period vcpus i
unfolding vcpu_rounds rounds
vcpu_rounds_in_time vcpus i = allowed _ _ _ _ 1

-- a later deadline and shorter periods of earlier rows never lower the bound
pub bound_grows : (counts : ℕ → Bool) (period period' : ℕ → ℕ) (due due' n : ℕ) → due' ≤ due → ((j : ℕ) → j < n → (1 ≤ period j) × (period j ≤ period' j))
    → rounds_bound counts period' due' n ≤ rounds_bound counts period due n
unfolding rounds_bound
bound_grows counts period period' due due' zero h f = le_refl 2
bound_grows counts period period' due due' (suc n) h f =
    let rest = bound_grows counts period period' due due' n h (λ j l. f j (omega arith)) in
    let last = f n (omega arith) in
    cases (counts n)
    (λ e. rw e (omega (arith, rest, arrivals_mono (period' n) due' due h, arrivals_fall due (period n) (period' n) last.0 last.1)))
    (λ e. rw e (omega (arith, rest)))

-- a row whose period is the deadline or more adds nothing
pub long_period_adds_nothing : (counts : ℕ → Bool) (period : ℕ → ℕ) (due n : ℕ) → 1 ≤ due → due ≤ period n
    → rounds_bound counts period due (suc n) ≡ rounds_bound counts period due n
unfolding rounds_bound
long_period_adds_nothing counts period due n low long =
    let one : arrivals due (period n) ≤ 1 = arrivals_least (period n) due 1 (le_trans low long) (omega (arith, long)) in
    cases (counts n) (λ e. rw e (omega (arith, one))) (λ e. rw e (omega arith))

-- the search of a row ends by itself
pub task_search_ends : (reload : ℕ) (vcpus tasks : List ℕ) → Plan reload vcpus tasks → (j m : ℕ) → j < task_rows tasks
    → let v = vcpu_of tasks j in let part = part_of tasks v in let i = j - part_start tasks v in
    rounds_from (supply (vcpu_period vcpus v) (budget vcpus v)) (task_need reload part i) (deadline part i) (deadline part i + m) 1
    ≡ task_rounds reload vcpus tasks j
unfolding rounds_in_part
task_search_ends reload vcpus tasks plan j m h =
    let f = fit reload vcpus tasks plan j h in
    ends_by_itself (task_search _ _ reload _ _ f.budgeted f.rows f.within) _ m (f.rows.row _ f.within).due_low
    ∙ sym (rounds_over_part reload vcpus tasks j)

pub vcpu_search_ends : (vcpus : List ℕ) → Vcpus vcpus → (i m : ℕ) → i < vcpu_rows vcpus
    → rounds_from (λ (t : ℕ). t) (vcpu_need vcpus i) (vcpu_period vcpus i) (vcpu_period vcpus i + m) 1 ≡ vcpu_rounds vcpus i
unfolding vcpu_rounds
vcpu_search_ends vcpus rows i m here =
    let r = rows.row i here in
    ends_by_itself (vcpu_search vcpus i rows here) (vcpu_period vcpus i) m (le_trans r.budget_low r.budget_high)
