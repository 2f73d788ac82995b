-- The rounds of the search for a time: document 02, No. 9. A round starts at t, 1 at first, works out the need in t, and takes the first
-- microsecond whose supply covers it; the search ends when this equals t or exceeds the deadline. They are counted over any need and any supply,
-- with two uses: a task, and a VCPU, whose supply in t is t and whose deadline is its period.
use Rattle.std.specs.Prelude.{ℕ, zero, suc, ◌+◌, ◌-◌, Bool, ◌||◌, List, eqb, leb, ltb, if◌then◌else◌}
use Rattle.supply.specs.Supply.{supply}
use Rattle.rows.specs.RowWords.{core, vcpu_period, budget, vcpu_of, task_period, deadline}
use Rattle.rows.specs.Part.{part_start, part_of}
use Rattle.times.specs.FirstTime.{Time, At, Late, first_time}
use Rattle.times.specs.Times.{arrivals, task_need, vcpu_need}

abbrev pub microsecond_or : ℕ → Time → ℕ
microsecond_or past (At t) = t
microsecond_or past Late = past

-- the first microsecond from 1 on whose supply covers so much, or the one past the deadline where it exceeds that
unfoldable pub covering : (ℕ → ℕ) → ℕ → ℕ → ℕ
covering supplied due x = microsecond_or (due + 1) (first_time (λ (s : ℕ). leb x (supplied s)) due)

-- the rounds from t on, n at most; that which ends the search counts
unfoldable pub rounds_from : (ℕ → ℕ) → (ℕ → ℕ) → ℕ → ℕ → ℕ → ℕ
rounds_from supplied needed due zero t = 0
rounds_from supplied needed due (suc n) t =
    let next = covering supplied due (needed t) in
    let more = rounds_from supplied needed due n next in
    if eqb next t || ltb due next then 1 else suc more

-- from 1 on. A round that does not end the search goes to a later microsecond, so that there are no more than the deadline has
unfoldable pub rounds : (ℕ → ℕ) → (ℕ → ℕ) → ℕ → ℕ
rounds supplied needed due = rounds_from supplied needed due due 1

unfoldable pub rounds_in_part : ℕ → ℕ → ℕ → List ℕ → ℕ → ℕ
rounds_in_part p q reload part i = rounds (supply p q) (task_need reload part i) (deadline part i)

-- the rounds of row j of the task list: over the part of its VCPU alone
unfoldable pub task_rounds : ℕ → List ℕ → List ℕ → ℕ → ℕ
task_rounds reload vcpus tasks j =
    let v = vcpu_of tasks j in
    rounds_in_part (vcpu_period vcpus v) (budget vcpus v) reload (part_of tasks v) (j - part_start tasks v)

unfoldable pub vcpu_rounds : List ℕ → ℕ → ℕ
vcpu_rounds vcpus i = rounds (λ (t : ℕ). t) (vcpu_need vcpus i) (vcpu_period vcpus i)

-- 2, and for each of the first n rows that counts the deadline over its period, rounded up, less 1
unfoldable pub rounds_bound : (ℕ → Bool) → (ℕ → ℕ) → ℕ → ℕ → ℕ
rounds_bound counts period due zero = 2
rounds_bound counts period due (suc j) = rounds_bound counts period due j + (if counts j then arrivals due (period j) - 1 else 0)

-- the bound of a task: earlier rows of its VCPU count
unfoldable pub task_bound : List ℕ → ℕ → ℕ
task_bound tasks j = rounds_bound (λ (k : ℕ). eqb (vcpu_of tasks k) (vcpu_of tasks j)) (task_period tasks) (deadline tasks j) j

-- the bound of a VCPU: earlier rows of its core count, and its period is its deadline
unfoldable pub vcpu_bound : List ℕ → ℕ → ℕ
vcpu_bound vcpus i = rounds_bound (λ (k : ℕ). eqb (core vcpus k) (core vcpus i)) (vcpu_period vcpus) (vcpu_period vcpus i) i
