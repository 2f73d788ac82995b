-- `board_tests::check_state` meets its contract: 26 is one test more behind 2 to 7.
use Rattle.std.proofs.Common.{sym, ◌∙◌}
use Rattle.refusal.proofs.Results.{told_of, handed_on, last_fails, last_passes}
use Rattle.board.specs.Tests.{board_reply, board_tests, state_tests, state_reply, quotas_test}
use Rattle.board_tests.proofs.check_state.Goals as goal

pub returns-in_err-check_shape : goal.returns-in_err-check_shape
unfolding state_reply state_tests board_reply
returns-in_err-check_shape c =
    told_of _ _ c.from_residual.ensures.1 ∙ handed_on tt tt (board_tests c.args.board.now c.args.words) _ _ c.in_err-check_shape.ensures

pub returns-then-bad_quotas : goal.returns-then-bad_quotas
unfolding state_reply state_tests board_reply
returns-then-bad_quotas c =
    last_fails tt tt (board_tests c.args.board.now c.args.words) (quotas_test c.args.board.now) c.in_ok-check_shape.ensures (sym c.bad_quotas.ensures ∙ c.if-bad_quotas.true)

pub returns : goal.returns
unfolding state_reply state_tests board_reply
returns c =
    last_passes tt tt (board_tests c.args.board.now c.args.words) (quotas_test c.args.board.now) c.in_ok-check_shape.ensures (sym c.bad_quotas.ensures ∙ c.if-bad_quotas.false)
