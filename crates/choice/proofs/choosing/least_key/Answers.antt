-- `choice::choosing::least_key` meets its contract. The invariant: the least of the keys passed (`Keys`).
use Rattle.std.proofs.Common.{arith}
use Rattle.choice.proofs.Keys.{least_min}
use Rattle.choice.proofs.choosing.least_key.Goals as goal

pub loop-colour-preserved : goal.loop-colour-preserved
loop-colour-preserved c = least_min _ c.loop-colour.invariant c.loop-colour-test.true _ (omega (arith, c.min-least.ensures))
