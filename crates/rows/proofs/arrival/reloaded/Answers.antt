-- `rows::arrival::reloaded` meets its contract; the order of the two sets does not matter.
use lib.Bits.{and_comm}
use Rattle.rows.proofs.arrival.reloaded.Goals as goal

pub returns : goal.returns
returns c = cc (c.task_word.ensures, and_comm c.task_word.result c.args.held)
