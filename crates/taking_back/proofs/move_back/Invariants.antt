-- `taking_back::move_back` meets its contract. The invariant: the moves back from here on, on the table as it is, leave what all of them do.
use Rattle.taking_back.proofs.TakenBackReply.{GoingBack}
use Rattle.taking_back.proofs.move_back.Given as goal

abbrev pub invariant-loop-i : goal.invariant-loop-i
invariant-loop-i l = GoingBack l.initial.table l.moves l.table l.i
