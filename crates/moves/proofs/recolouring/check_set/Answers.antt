-- `moves::recolouring::check_set` meets its contract: 9 is one test more behind 2 to 8 and 26.
use Rattle.std.proofs.Common.{◌≡◌, sym, ap, ◌∙◌, ℕ}
use Rattle.refusal.specs.Reply.{test}
use Rattle.refusal.proofs.Results.{told_of, handed_on, last_fails, last_passes}
use Rattle.board.specs.Tests.{grant, empty_or_outside, call_tests, call_reply}
use Rattle.moves.specs.Steps.{set_reply}
use Rattle.moves.proofs.recolouring.check_set.Goals as goal
use Rattle.moves.proofs.recolouring.check_set.Goals.{After-empty_or_outside}

tested : (c : After-empty_or_outside) → let a = c.args in c.empty_or_outside.result ≡ empty_or_outside (grant a.board a.domain) a.set
tested c = c.empty_or_outside.ensures ∙ ap (λ (g : ℕ). empty_or_outside g c.args.set) c.grant.ensures

pub returns-in_err-check_call : goal.returns-in_err-check_call
unfolding set_reply call_reply
returns-in_err-check_call c =
    let a = c.args in
    told_of _ _ c.from_residual.ensures.1 ∙ handed_on tt tt (call_tests a.board a.words a.domain) _ _ c.in_err-check_call.ensures

pub returns-then-empty_or_outside : goal.returns-then-empty_or_outside
unfolding set_reply call_reply
returns-then-empty_or_outside c =
    let a = c.args in
    let fails = sym (tested (goal.at.returns-then-empty_or_outside c).After-empty_or_outside) ∙ c.if-empty_or_outside.true in
    last_fails tt tt (call_tests a.board a.words a.domain) (test 9 (empty_or_outside (grant a.board a.domain) a.set)) c.in_ok-check_call.ensures fails

pub returns : goal.returns
unfolding set_reply call_reply
returns c =
    let a = c.args in
    let passes = sym (tested (goal.at.returns c).After-empty_or_outside) ∙ c.if-empty_or_outside.false in
    last_passes tt tt (call_tests a.board a.words a.domain) (test 9 (empty_or_outside (grant a.board a.domain) a.set)) c.in_ok-check_call.ensures passes
