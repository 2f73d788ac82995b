-- `table_words::search::next_stray` meets its contract. The invariant: the frame sought is sought from `f` on.
use Rattle.std.proofs.Common.{◌≡◌, ◌+◌, ◌-◌, ◌≤◌, length}
use Rattle.lists.specs.Range.{lowest_from}
use Rattle.table_words.specs.Sets.{stray_by, next_stray}
use Rattle.table_words.proofs.search.next_stray.Given as goal

abbrev pub invariant-loop-f : goal.invariant-loop-f
invariant-loop-f l =
    let end = l.start + (length l.table - l.start) in
    (l.start ≤ l.f) × (l.f ≤ end) × (next_stray l.table l.first l.limits l.start ≡ lowest_from (stray_by l.table l.first l.limits) l.f end)

abbrev pub decreases-loop-f : goal.decreases-loop-f
decreases-loop-f l = length l.table - l.f
