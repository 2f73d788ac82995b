-- `admission::search::time_in_part` meets its contract: what is kept gives the task's need, and the resource has a first time for each amount.
use Rattle.std.proofs.Common.{rules, ◌≡◌, ℕ, ◌<◌, ◌≤◌, arith, ◌∙◌}
use lib.ListN.{get_or}
use native.Mathlib.Nat.{le_trans}
use Rattle.supply.specs.Supply.{supply, first_supply}
use Rattle.rows.specs.RowWords.{task_period, deadline}
use Rattle.times.specs.Times.{need, task_need, time_in_part}
use Rattle.times.specs.Rounds.{rounds_in_part}
use Rattle.times.proofs.Search.{Searchable}
use Rattle.times.proofs.Bounds.{task_search, kept_le, kept_need}
use Rattle.admission.specs.Searches.{Searched}
use Rattle.admission.proofs.RoundSearches.{met}
use Rattle.admission.proofs.search.time_in_part.Goals as goal
use Rattle.admission.proofs.search.time_in_part.Goals.{Start, After-charges-charged, After-by_rounds}

search_of : (c : Start) → Searchable (supply c.args.period c.args.budget) (task_need c.args.reload c.args.part.now c.args.i) (first_supply c.args.period c.args.budget)
search_of c = task_search c.args.period c.args.budget c.args.reload c.args.part.now c.args.i c.requires.0 c.requires.3 c.requires.4

due_le : (c : Start) → deadline c.args.part.now c.args.i ≤ 1000000
due_le c = let r = c.requires.3.row c.args.i c.requires.4 in le_trans r.due_high r.period_high

-- the need with what is kept
abbrev kept : After-charges-charged → ℕ → ℕ
kept c t = need c.cost-own.result (task_period c.args.part.now) (λ (j : ℕ). get_or c.charges-charged.result j 0) c.args.i t

need_is : (c : After-charges-charged) → (t : ℕ) → kept c t ≡ task_need c.args.reload c.args.part.now c.args.i t
need_is c t =
    let a = c.args in
    kept_need a.reload a.part.now a.i _ _ c.cost-own.ensures c.charges-charged.ensures t (omega (arith, c.requires.3.few, c.requires.4))

pub by_rounds-requires-clause-asks_need : goal.by_rounds-requires-clause-asks_need
by_rounds-requires-clause-asks_need c = λ t l h.
    let a = c.args in
    let p = goal.at.by_rounds-requires-clause-asks_need c in
    let row = c.requires.3.row a.i c.requires.4 in
    let own : c.cost-own.result ≤ 1000000 = omega (arith, c.cost-own.ensures, row.cost_high) in
    let at : t ≤ 1000000 = omega (arith, h, c.task_word.ensures, due_le p.Start) in
    let charged : (j : ℕ) → j < a.i → get_or c.charges-charged.result j 0 ≤ 1160000 = kept_le a.reload a.part.now a.i _ _ c.cost-own.ensures c.charges-charged.ensures c.requires.2 c.requires.3 c.requires.4 in
    search rules

pub by_rounds-requires-clause-some : goal.by_rounds-requires-clause-some
by_rounds-requires-clause-some c = λ t n l h k.
    let p = goal.at.by_rounds-requires-clause-some c in
    let e : n ≡ kept p.After-charges-charged t = search rules in
    omega (arith, e, need_is p.After-charges-charged t, (search_of p.Start).some t)

searched : (c : After-by_rounds) → let a = c.args in Searched (supply a.period a.budget) (task_need a.reload a.part.now a.i) (deadline a.part.now a.i) c.by_rounds.result
searched c =
    let a = c.args in
    let p = goal.at.After-by_rounds c in
    rw (← c.task_word.ensures)
    (c.by_rounds.ensures (supply a.period a.budget) (task_need a.reload a.part.now a.i) (first_supply a.period a.budget) (met (search_of p.Start))
    (λ t n h k. let e : n ≡ kept p.After-charges-charged t = search rules in e ∙ need_is p.After-charges-charged t) (λ x s h k. search rules))

pub returns-clause-found_value : goal.returns-clause-found_value
unfolding time_in_part
returns-clause-found_value c = (searched (goal.at.returns-clause-found_value c).After-by_rounds).found

pub returns-clause-rounds_value : goal.returns-clause-rounds_value
unfolding rounds_in_part
returns-clause-rounds_value c = (searched (goal.at.returns-clause-rounds_value c).After-by_rounds).counted
