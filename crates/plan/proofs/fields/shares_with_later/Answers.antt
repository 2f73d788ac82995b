-- `plan::fields::shares_with_later` meets its contract: `any` asks of each row after this one what the definition asks.
use Rattle.std.proofs.Common.{rules, tests, ◌+◌, ◌-◌, ◌∙◌, refl}
use Rattle.std.proofs.lemmas.Iterator.{YieldsList-from_range}
use Rattle.std.proofs.lemmas.Iterator.Search.{any_from_yields_List}
use Rattle.lists.proofs.Finds.{any_in_range}
use Rattle.plan.proofs.Sharing.{sharing}
use Rattle.plan.proofs.fields.shares_with_later.Goals as goal

pub returns : goal.returns
returns c =
    let a = c.args in
    let shares = sharing a.tasks.now a.row in
    rw (← c.requires.0)
    (any_from_yields_List shares _ _ c.any.result c.any.ensures.ran (YieldsList-from_range (a.row + 1) a.rows (a.rows - (a.row + 1)) refl refl) (λ x b q k. search (rules, tests))
    ∙ any_in_range shares (a.row + 1) (a.rows - (a.row + 1)))
