-- `pass::lanes::count_own` meets its contract. The invariant: what is counted, with the words ahead.
use lib.ListN.{get_or}
use Rattle.lists.proofs.RangeLoops.{Counting}
use Rattle.tally.specs.Tally.{is_own}
use Rattle.pass.proofs.lanes.count_own.Given as goal

abbrev pub invariant-loop-word : goal.invariant-loop-word
invariant-loop-word l = Counting (λ f. is_own l.own.first (get_or l.word-items f 0)) l.word-index-end l.word-index l.count
