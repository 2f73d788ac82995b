-- `taking_back::triples::check_triples` meets its contract. The invariant: what the list comes to is what its triples from here on come to, with the marks so far.
use Rattle.taking_back.proofs.CheckedTriples.{Checking}
use Rattle.taking_back.proofs.triples.check_triples.Given as goal

abbrev pub invariant-loop-i : goal.invariant-loop-i
invariant-loop-i l = let s = l.former in Checking l.table l.moves s.colours s.domain s.set l.marks l.outside l.i
