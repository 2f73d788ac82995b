-- `rows::arrival::charges` meets its contract, by the laws of going down from row i (`Charging`).
use Rattle.rows.proofs.Charging.{Charging}
use Rattle.rows.proofs.arrival.charges.Given as goal

abbrev pub invariant-loop-j : goal.invariant-loop-j
invariant-loop-j l = Charging l.reload l.tasks l.i l.held l.j l.found

abbrev pub decreases-loop-j : goal.decreases-loop-j
decreases-loop-j l = l.j
