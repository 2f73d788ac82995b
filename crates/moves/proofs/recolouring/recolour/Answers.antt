-- `moves::recolouring::recolour` meets its contract: the board goes by the answer.
use Rattle.std.proofs.Common.{◌∙◌}
use Rattle.calls.specs.Calls.{called, recolour}
use Rattle.moves.proofs.NextBoard.{board_answered, board_refused}
use Rattle.moves.proofs.recolouring.recolour.Goals as goal

pub returns-in-Ok-clause-board_value : goal.returns-in-Ok-clause-board_value
unfolding recolour called
returns-in-Ok-clause-board_value c = c.with_active.ensures ∙ board_answered _ _ _ _ c.in-Ok.ensures.answer_value

pub returns-in-Err-clause-board_value : goal.returns-in-Err-clause-board_value
unfolding recolour called
returns-in-Err-clause-board_value c = board_refused _ _ _ _ c.in-Err.ensures.answer_value
