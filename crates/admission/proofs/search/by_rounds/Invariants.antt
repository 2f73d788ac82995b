-- `admission::search::by_rounds` meets its contract. The invariant: no microsecond before t will do, and so many rounds are behind it. Each
-- round goes on to the first whose supply covers the need in t, and what the search stops at is the first that will (`Searching`).
use Rattle.std.proofs.Common.{◌≡◌, ℕ, ◌+◌, ◌-◌, ◌<◌, ◌≤◌}
use Rattle.times.proofs.CountedRounds.{Searching}
use Rattle.admission.specs.Searches.{Met}
use Rattle.admission.proofs.search.by_rounds.Given as goal

abbrev pub invariant-loop-t : goal.invariant-loop-t
invariant-loop-t g l =
    (1 ≤ l.t) × (l.rounds < l.t)
    × ((supply need least : ℕ → ℕ) → Met supply need least → ((t n : ℕ) → t ≤ l.due → goal.N-post g l.needed t n → n ≡ need t) → ((x s : ℕ) → x ≤ l.due → goal.F-post g l.first x s → s ≡ least x)
    → Searching supply need l.due l.rounds l.t)

abbrev pub decreases-loop-t : goal.decreases-loop-t
decreases-loop-t g l = l.due + 1 - l.t
