-- Plans that reach the bound, and the most rounds that there can be: what a round takes is worked out at each place, and the places are counted.
use Prim.Native.Nat.{ℕ, suc, ◌+◌, ◌-◌, ◌*◌, ◌<◌, ◌≤◌}
use native.Mathlib.Nat.{le_refl, div-add-mod'}
use native.Mathlib.Omega.{arith}
use mathlib.Core.List.{List}
use mathlib.Core.Path.{◌≡◌, refl, ap, ◌∙◌}
use lib.Count.{ones, ones_in}
use Rattle.lists.specs.Range.{from, keep, lowest_from}
use Rattle.refusal.specs.Reply.{each, unless}
use Rattle.colours.specs.Sets.{is_colour_set}
use Rattle.colours.specs.Cache.{is_colour_count}
use Rattle.supply.specs.Supply.{supply, first_supply, Budget}
use Rattle.board.specs.declared.Board.{Board}
use Rattle.board.specs.Tests.{domain_tests, board_tests, board_reply}
use Rattle.rows.specs.RowWords.{cost}
use Rattle.rows.specs.Reload.{held_from, reloaded_set, reloaded, arrival_charge}
use Rattle.rows.specs.Part.{part_start, rows_from, part_of}
use Rattle.rows.specs.ValidRows.{Plan}
use Rattle.plan.specs.Tests.{row_tests, plan_tests, plan_reply}
use Rattle.plan.proofs.Validity.{valid}
use Rattle.times.specs.Times.{arrivals, need, task_need, vcpu_charge, vcpu_need}
use Rattle.times.specs.Rounds.{rounds, rounds_in_part, task_rounds, vcpu_rounds, rounds_bound, task_bound, vcpu_bound}
use Rattle.times.proofs.Search.{Searchable}
use Rattle.times.proofs.Bounds.{task_searchable, vcpu_searchable}
use Rattle.times.proofs.CountedRounds.{as_many_as_microseconds, climb, goes_on}
use Rattle.times.proofs.FitRows.{rounds_over_part}
use Rattle.examples.specs.Table.{planned, task}
use Rattle.claims.specs.Rounds.{whole, crowded, tasks_behind, vcpus_behind, Passes}

-- what is left of a plan that passes
pub plan_of : (b : Board) (reload : ℕ) (vcpus tasks : List ℕ) (room : ℕ) → Passes b reload vcpus tasks room → Plan reload vcpus tasks
plan_of b reload vcpus tasks room p = valid b reload vcpus tasks room p.1 p.0

-- by computation
pub plans_pass :
    Passes planned 0 whole crowded 3 × Passes planned 0 whole (tasks_behind 1) 3 × Passes planned 0 whole (tasks_behind 31) 33
    × Passes planned 0 (vcpus_behind 1) (task 1 1 0x1 1) 3 × Passes planned 0 (vcpus_behind 15) (task 1 1 0x1 1) 17
unfolding is_colour_count is_colour_set from each unless domain_tests board_tests board_reply row_tests plan_tests plan_reply
plans_pass = ((refl, refl), (refl, refl), (refl, refl), (refl, refl), (refl, refl))

pub task_bound_at_most : task_bound (tasks_behind 31) 31 ≡ 30999971
unfolding task_bound rounds_bound arrivals
task_bound_at_most = refl

pub vcpu_bound_at_most : vcpu_bound (vcpus_behind 15) 15 ≡ 14999987
unfolding vcpu_bound rounds_bound arrivals
vcpu_bound_at_most = refl

-- a whole core supplies so much in so many microseconds
first_of_whole : (p x : ℕ) → 1 ≤ x → first_supply p p x ≡ x
unfolding first_supply
first_of_whole p x low = omega (arith, div-add-mod' (x - 1) p)

-- an arrival in each microsecond
each_one : (t : ℕ) → arrivals t 1 ≡ t
unfolding arrivals
each_one t = omega arith

million : Budget 1000000 1000000
million = record { some = omega arith; within = omega arith }

-- behind a row that takes all of the core, the need in t is t + 1
one_later : (t : ℕ) → 1 + arrivals t 1 * 1 ≡ t + 1
one_later t = omega (arith, each_one t)

pub a_million_vcpu_rounds : vcpu_rounds (vcpus_behind 1) 1 ≡ 1000000
unfolding vcpu_rounds vcpu_need need vcpu_charge
a_million_vcpu_rounds =
    as_many_as_microseconds (vcpu_searchable (vcpus_behind 1) 1 (le_refl 1)) 1000000 (λ t h. one_later t)

pub a_million_task_rounds : task_rounds 0 whole (tasks_behind 1) 1 ≡ 1000000
unfolding
    rounds_in_part part_start part_of rows_from lowest_from keep from
    task_need need cost arrival_charge reloaded reloaded_set held_from ones ones_in
a_million_task_rounds =
    rounds_over_part 0 whole (tasks_behind 1) 1
    ∙ as_many_as_microseconds (task_searchable 1000000 1000000 0 (tasks_behind 1) 1 million (le_refl 1)) 1000000 (λ t h. first_of_whole 1000000 (1 + arrivals t 1 * 1) (omega arith) ∙ one_later t)

-- the search of the crowded plan: where its rounds start, from the second on
abbrev place : ℕ → ℕ
place k = 1999 + 999 * k

arrived : (k : ℕ) → k < 999 → arrivals (place k) 1000 ≡ k + 2
unfolding arrivals
arrived k h = omega arith

-- the first place, and the last, where the need is the time
from_one : 1000 + arrivals 1 1000 * 999 ≡ place 0
unfolding arrivals
from_one = refl

stays : 1000 + arrivals (place 999) 1000 * 999 ≡ place 999
unfolding arrivals
stays = refl

crowded_search : Searchable (supply 1000000 1000000) (task_need 0 crowded 1) (first_supply 1000000 1000000)
unfolding cost ones ones_in
crowded_search = task_searchable 1000000 1000000 0 crowded 1 million (omega arith)

crowded_first : (t : ℕ) → first_supply 1000000 1000000 (task_need 0 crowded 1 t) ≡ 1000 + arrivals t 1000 * 999
unfolding task_need need cost arrival_charge reloaded reloaded_set held_from ones ones_in
crowded_first t = first_of_whole 1000000 (1000 + arrivals t 1000 * 999) (omega arith)

pub crowded_rounds : task_rounds 0 whole crowded 1 ≡ 1001
unfolding rounds_in_part rounds part_start part_of rows_from lowest_from keep from
crowded_rounds =
    let second : first_supply 1000000 1000000 (task_need 0 crowded 1 1) ≡ 1999 = crowded_first 1 ∙ from_one in
    let rest = climb crowded_search 1000000 place 999
    (λ k h. (crowded_first (place k) ∙ rw (arrived k h) (omega arith), omega arith))
    (λ k h. omega arith)
    (crowded_first (place 999) ∙ stays) 999 999999 0 refl (omega arith) in
    rounds_over_part 0 whole crowded 1
    ∙ goes_on crowded_search 1000000 999999 1 (omega (arith, second)) (omega (arith, second))
    ∙ rw second (ap suc rest)

pub crowded_bound : task_bound crowded 1 ≡ 1001
unfolding task_bound rounds_bound arrivals
crowded_bound = refl
