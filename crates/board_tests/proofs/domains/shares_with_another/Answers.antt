-- `board_tests::domains::shares_with_another` meets its contract: `any` asks of each domain below the count what the definition asks.
use Rattle.std.proofs.Common.{rules, tests, ℕ, refl, ◌∙◌}
use Rattle.std.proofs.lemmas.Iterator.{YieldsList-from_range}
use Rattle.std.proofs.lemmas.Iterator.Search.{any_from_yields_List}
use mathlib.Core.Bool.{not, ◌&&◌}
use lib.Dec.{eqb}
use native.Mathlib.Nat.{sub-zero}
use Rattle.lists.proofs.Finds.{any_in_range}
use Rattle.board.specs.Tests.{grant, shares}
use Rattle.board_tests.proofs.domains.shares_with_another.Goals as goal

pub returns : goal.returns
returns c =
    let b = c.args.board.now in
    let d : ℕ = c.args.d in
    let sharing = λ (e : ℕ). not (eqb e d) && shares (grant b d) (grant b e) in
    any_from_yields_List sharing _ _ c.any.result c.any.ensures.ran (YieldsList-from_range 0 b.domains b.domains refl (sub-zero b.domains)) (λ x b q k. search (rules, tests))
    ∙ any_in_range sharing 0 b.domains
