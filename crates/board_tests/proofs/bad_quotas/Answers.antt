-- `board_tests::bad_quotas` meets its contract: `any` asks of each domain below the count what the definition asks.
use Rattle.std.proofs.Common.{rules, tests, ℕ, refl, ◌∙◌}
use Rattle.std.proofs.lemmas.Iterator.{YieldsList-from_range}
use Rattle.std.proofs.lemmas.Iterator.Search.{any_from_yields_List}
use native.Mathlib.Nat.{sub-zero}
use Rattle.lists.proofs.Finds.{any_in_range}
use Rattle.board.specs.Tests.{quota, no_quota, bad_quotas}
use Rattle.board_tests.proofs.bad_quotas.Goals as goal

pub returns : goal.returns
unfolding bad_quotas
returns c =
    let b = c.args.board.now in
    let bad = λ (d : ℕ). no_quota (quota b d) in
    any_from_yields_List bad _ _ c.any.result c.any.ensures.ran (YieldsList-from_range 0 b.domains b.domains refl (sub-zero b.domains)) (λ x b q k. search (rules, tests))
    ∙ any_in_range bad 0 b.domains
