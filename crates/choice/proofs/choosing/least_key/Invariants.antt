-- `choice::choosing::least_key` meets its contract. The invariant: the least of the keys passed (`Keys`).
use Rattle.choice.proofs.Keys.{LeastYet}
use Rattle.choice.proofs.choosing.least_key.Given as goal

abbrev pub invariant-loop-colour : goal.invariant-loop-colour
invariant-loop-colour l = LeastYet l.keys l.least l.colour
