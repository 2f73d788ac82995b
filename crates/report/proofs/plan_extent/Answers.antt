-- `report::plan_extent` meets its contract: the counts are those of the input, and the limits keep every sum small.
use Prim.Native.Nat.{ℕ, ◌+◌, ◌*◌}
use mathlib.Core.List.{List}
use mathlib.Core.Path.{◌≡◌, sym, ◌∙◌}
use Rattle.report.specs.Input.{plan_words, over_limit}
use Rattle.report.proofs.Verdict.{extent_over, extent_short, extent_whole}
use Rattle.report.proofs.plan_extent.Goals as goal
use Rattle.report.proofs.plan_extent.Goals.{After-over_limit}

-- whether a count is over its limit, and how many words the counts say
over : (c : After-over_limit) → c.over_limit.result ≡ over_limit c.args.input.now
unfolding over_limit
over c =
    let r = c.count_rows-rows.ensures in
    c.over_limit.ensures ∙ rw (r.0, r.1, r.2)

taken : (c : After-over_limit) → 6 + c.count_rows-rows.result.domains + 4 * c.count_rows-rows.result.vcpus + 20 * c.count_rows-rows.result.tasks ≡ plan_words c.args.input.now
unfolding plan_words
taken c =
    let r = c.count_rows-rows.ensures in
    rw (r.0, r.1, r.2)

pub returns-then-over_limit : goal.returns-then-over_limit
returns-then-over_limit c = sym (extent_over c.args.input.now (sym (over (goal.at.returns-then-over_limit c).After-over_limit) ∙ c.if-over_limit.true))

pub returns-then-input-words : goal.returns-then-input-words
returns-then-input-words c = sym (extent_short c.args.input.now (rw (taken (goal.at.returns-then-input-words c).After-over_limit) at c.if-input-words.true))

pub returns : goal.returns
returns c =
    let input : List ℕ = c.args.input.now in
    let p = (goal.at.returns c).After-over_limit in
    rw (taken p) (sym (extent_whole input (sym (over p) ∙ c.if-over_limit.false) (rw (taken p) at c.if-input-words.false)))
