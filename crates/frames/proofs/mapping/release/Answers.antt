-- `frames::mapping::release` meets its contract: the outcomes of `PageSearch` for the frame that the search finds.
use native.Mathlib.Omega.{arith}
use Prim.Native.Nat.{◌<◌}
use mathlib.Core.Path.{◌≡◌, refl, sym, ◌∙◌}
use lib.ListN.{length}
use Rattle.lists.specs.Range.{is_at, lowest}
use Rattle.refusal.specs.Reply.{Answers}
use Rattle.refusal.proofs.Results.{told_with}
use Rattle.calls.specs.Calls.{release}
use Rattle.calls.proofs.CallTests.{told_by}
use Rattle.table_words.proofs.LowestFound.{found_low, found_none}
use Rattle.frames.specs.Steps.{page_reply}
use Rattle.frames.proofs.PageCallOutcome.{page_refused, page_accepted}
use Rattle.frames.proofs.PageSearch.{release_mapped, release_unmapped}
use Rattle.frames.proofs.mapping.release.Goals as goal
use Rattle.frames.proofs.mapping.release.Goals.{After-lowest_word, In-Some}

passes_10 : (c : After-lowest_word) → let a = c.args in page_reply a.board (length a.table.now) a.domain a.page ≡ Answers tt
passes_10 c = sym c.in_ok-check_page.ensures

-- the frame that was found
low : (c : In-Some) → let t = c.args.table.now in (c.in-Some.frame ≡ lowest (is_at t c.word_for.result) (length t)) × (c.in-Some.frame < length t)
low c = found_low _ _ _ (sym c.lowest_word.ensures ∙ c.in-Some.is)

pub offset_bounds-table-frame : goal.offset_bounds-table-frame
offset_bounds-table-frame c =
    let at = goal.at.offset_bounds-table-frame c in
    omega (arith, page_accepted _ _ _ _ (passes_10 at.After-lowest_word), (low at.In-Some).1)

pub bounds-table-frame : goal.bounds-table-frame
bounds-table-frame c = (low (goal.at.bounds-table-frame c).In-Some).1

pub overflow_cast-result : goal.overflow_cast-result
overflow_cast-result c =
    let at = goal.at.overflow_cast-result c in
    omega (arith, page_accepted _ _ _ _ (passes_10 at.After-lowest_word), (low at.In-Some).1)

pub returns-in_err-check_page : goal.returns-in_err-check_page
unfolding release
returns-in_err-check_page c =
    let a = c.args in
    let m = told_by _ _ (page_refused _ a.domain _ _ a.page _ _ (sym c.in_err-check_page.ensures)) in
    record { result_value = told_with _ _ _ c.from_residual.ensures.1 ∙ m.0; table_after = m.1 }

pub returns-in_default : goal.returns-in_default
returns-in_default c =
    let none = found_none _ _ (sym c.lowest_word.ensures ∙ c.in_default.is) in
    let m = told_by _ _ (release_unmapped _ _ _ _ (passes_10 (goal.at.returns-in_default c).After-lowest_word) _ _ c.word_for.ensures refl none) in
    record { result_value = m.0; table_after = m.1 }

pub returns : goal.returns
returns c =
    let at = goal.at.returns c in
    let f = low at.In-Some in
    let m = told_by _ _ (release_mapped _ _ _ _ (passes_10 at.After-lowest_word) _ _ c.word_for.ensures f.0 f.1) in
    record { result_value = m.0; table_after = m.1 }
