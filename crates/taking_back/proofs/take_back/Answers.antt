-- `taking_back::take_back` meets its contract: the board goes by the answer.
use Rattle.std.proofs.Common.{◌∙◌}
use Rattle.calls.specs.Calls.{called}
use Rattle.calls.specs.TakeBack.{take_back}
use Rattle.moves.proofs.NextBoard.{board_answered, board_refused}
use Rattle.taking_back.proofs.take_back.Goals as goal

pub returns-in-Ok-clause-board_value : goal.returns-in-Ok-clause-board_value
unfolding take_back called
returns-in-Ok-clause-board_value c = c.with_active.ensures ∙ board_answered _ _ _ _ c.in-Ok.ensures.answer_value

pub returns-in-Err-clause-board_value : goal.returns-in-Err-clause-board_value
unfolding take_back called
returns-in-Err-clause-board_value c = board_refused _ _ _ _ c.in-Err.ensures.answer_value
