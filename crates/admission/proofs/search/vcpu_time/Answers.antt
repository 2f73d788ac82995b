-- `admission::search::vcpu_time` meets its contract: what is kept gives the VCPU's need, and t is the supply in t.
use Rattle.std.proofs.Common.{rules, ◌≡◌, ℕ, arith, ◌∙◌}
use Rattle.times.specs.Times.{need, vcpu_need, vcpu_time}
use Rattle.times.specs.Rounds.{vcpu_rounds}
use Rattle.times.proofs.Search.{Searchable}
use Rattle.times.proofs.Bounds.{vcpu_search}
use Rattle.rows.specs.RowWords.{vcpu_period}
use Rattle.admission.specs.EarlierRows.{row_at}
use Rattle.admission.specs.Searches.{Searched}
use Rattle.admission.proofs.CoreVcpus.{kept_need}
use Rattle.admission.proofs.RoundSearches.{met}
use Rattle.admission.proofs.search.vcpu_time.Goals as goal
use Rattle.admission.proofs.search.vcpu_time.Goals.{Start, After-core_rows-kept, After-by_rounds}

search_of : (c : Start) → Searchable (λ (t : ℕ). t) (vcpu_need c.args.vcpus.now c.args.i) (λ (x : ℕ). x)
search_of c = vcpu_search c.args.vcpus.now c.args.i c.requires.0 c.requires.1

-- the need with what is kept
abbrev kept : After-core_rows-kept → ℕ → ℕ
kept c t = let rows = c.core_rows-kept.result.rows in need c.vcpu_word-own.result (λ (j : ℕ). (row_at rows j).period) (λ (j : ℕ). (row_at rows j).budget) c.core_rows-kept.result.count t

need_is : (c : After-core_rows-kept) → (t : ℕ) → kept c t ≡ vcpu_need c.args.vcpus.now c.args.i t
need_is c t = kept_need c.vcpu_word-own.ensures c.core_rows-kept.ensures t

pub by_rounds-requires-clause-some : goal.by_rounds-requires-clause-some
by_rounds-requires-clause-some c = λ t n l h k.
    let p = goal.at.by_rounds-requires-clause-some c in
    let e : n ≡ kept p.After-core_rows-kept t = search rules in
    omega (arith, e, need_is p.After-core_rows-kept t, (search_of p.Start).some t)

searched : (c : After-by_rounds) → Searched (λ (t : ℕ). t) (vcpu_need c.args.vcpus.now c.args.i) (vcpu_period c.args.vcpus.now c.args.i) c.by_rounds.result
searched c =
    let p = goal.at.After-by_rounds c in
    rw (← c.vcpu_word.ensures)
    (c.by_rounds.ensures (λ (t : ℕ). t) (vcpu_need c.args.vcpus.now c.args.i) (λ (x : ℕ). x) (met (search_of p.Start))
    (λ t n h k. let e : n ≡ kept p.After-core_rows-kept t = search rules in e ∙ need_is p.After-core_rows-kept t) (λ x s h k. search rules))

pub returns-clause-found_value : goal.returns-clause-found_value
unfolding vcpu_time
returns-clause-found_value c = (searched (goal.at.returns-clause-found_value c).After-by_rounds).found

pub returns-clause-rounds_value : goal.returns-clause-rounds_value
unfolding vcpu_rounds
returns-clause-rounds_value c = (searched (goal.at.returns-clause-rounds_value c).After-by_rounds).counted
