-- `taking_back::restore_table` meets its contract: what a taking back with the reply that was judged does (`TakeBackCall`).
use native.Mathlib.Omega.{arith}
use mathlib.Core.Path.{◌≡◌, refl, sym, ◌∙◌}
use lib.ListN.{length}
use Rattle.refusal.specs.Reply.{Answers}
use Rattle.refusal.proofs.Results.{told_with}
use Rattle.board.proofs.PassedTests.{CallAccepted}
use Rattle.moves.specs.Steps.{set_reply}
use Rattle.moves.proofs.RecolouringReply.{set_accepted}
use Rattle.taking_back.proofs.TakenBackReply.{taken_right, names_frames}
use Rattle.taking_back.proofs.TakeBackCall.{set_refused, judged_refused, judged_taken}
use Rattle.taking_back.proofs.restore_table.Goals as goal
use Rattle.taking_back.proofs.restore_table.Goals.{In_ok-check_set}

passes_9 : (c : In_ok-check_set) → let a = c.args in set_reply a.board (length a.table.now) a.domain a.set ≡ Answers tt
passes_9 c = sym c.in_ok-check_set.ensures

fine : (c : In_ok-check_set) → let a = c.args in CallAccepted a.board (length a.table.now) a.domain
fine c = let a = c.args in set_accepted a.board a.table.now a.domain a.set (passes_9 c)

pub returns-in_err-check_set : goal.returns-in_err-check_set
returns-in_err-check_set c =
    let a = c.args in
    let m = set_refused a.board a.table.now a.domain a.set a.moves.now _ _ (sym c.in_err-check_set.ensures) in
    record { answer_value = told_with _ _ _ c.from_residual.ensures.1 ∙ m.0; table_after = m.1.1 }

pub invariant_of-former : goal.invariant_of-former
invariant_of-former c =
    let ok = fine (goal.at.invariant_of-former c).In_ok-check_set in
    record { counted = ok.passed.count; low = omega (arith, ok.bounds, ok.caller) }

pub judge_list-requires : goal.judge_list-requires
judge_list-requires c = omega (arith, (fine (goal.at.judge_list-requires c).In_ok-check_set).bounds)

pub returns-in_err-count : goal.returns-in_err-count
returns-in_err-count c =
    let m = judged_refused _ _ _ _ _ (passes_9 (goal.at.returns-in_err-count c).In_ok-check_set) _ _ (sym c.in_err-count.ensures) in
    record { answer_value = told_with _ _ _ c.from_residual-in_err-count.ensures.1 ∙ m.0; table_after = m.1.1 }

pub move_back-requires : goal.move_back-requires
move_back-requires c = names_frames _ _ _ _ _ (taken_right _ _ _ _ _ _ (sym c.in_ok-count.ensures))

pub returns : goal.returns
returns c =
    let m = judged_taken _ _ _ _ _ (passes_9 (goal.at.returns c).In_ok-check_set) _ (sym c.in_ok-count.ensures) _ _ refl c.move_back.ensures in
    record { answer_value = m.0; table_after = m.1.1 }
