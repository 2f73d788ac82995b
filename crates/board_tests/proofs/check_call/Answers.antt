-- `board_tests::check_call` meets its contract: 8 is one test more behind 2 to 7 and 26.
use Rattle.std.proofs.Common.{◌∙◌}
use borrow.Author.Tests.{lt-ltb, le-ltb}
use Rattle.refusal.proofs.Results.{told_of, handed_on, last_fails, last_passes}
use Rattle.board.specs.Tests.{state_reply, state_tests, call_tests, call_reply, caller_test}
use Rattle.board_tests.proofs.check_call.Goals as goal

pub returns-in_err-check_state : goal.returns-in_err-check_state
unfolding call_reply call_tests state_reply
returns-in_err-check_state c =
    told_of _ _ c.from_residual.ensures.1 ∙ handed_on tt tt (state_tests c.args.board c.args.words) _ _ c.in_err-check_state.ensures

pub returns-then-domain-board : goal.returns-then-domain-board
unfolding call_reply call_tests state_reply
returns-then-domain-board c =
    last_passes tt tt (state_tests c.args.board c.args.words) (caller_test c.args.board c.args.domain) c.in_ok-check_state.ensures (rw (lt-ltb _ _ c.if-domain-board.true))

pub returns-else-domain-board : goal.returns-else-domain-board
unfolding call_reply call_tests state_reply
returns-else-domain-board c =
    last_fails tt tt (state_tests c.args.board c.args.words) (caller_test c.args.board c.args.domain) c.in_ok-check_state.ensures (rw (le-ltb _ _ c.if-domain-board.false))
