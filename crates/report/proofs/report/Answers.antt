-- `report::report` meets its contract: refusal 1 for an input that is no plan, and otherwise what the plan gets.
use Prim.Native.Nat.{ℕ}
use mathlib.Core.List.{List}
use mathlib.Core.Path.{sym, ap, ◌∙◌}
use lib.ListN.{length}
use Rattle.text.specs.Text.{over}
use Rattle.report.proofs.Verdict.{no_words, refused_1}
use Rattle.report.proofs.report.Goals as goal

pub returns-in-None : goal.returns-in-None
returns-in-None c =
    let i : List ℕ = c.args.input.now in
    let none = c.in-None.ensures in
    let t = rw (c.number.ensures, c.row.ensures) at c.write_refused.ensures.holds in
    let told = refused_1 i none in record { verdict_value = sym told.0; words_value = (no_words i none, t.0 ∙ ap (λ (l : List ℕ). length l) (sym told.1), t.1); text_after = t.2 ∙ ap (λ (l : List ℕ). over l c.args.text.now) (sym told.1) }
