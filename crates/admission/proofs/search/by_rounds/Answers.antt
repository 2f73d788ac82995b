-- `admission::search::by_rounds` meets its contract. The invariant: no microsecond before t will do, and so many rounds are behind it. Each
-- round goes on to the first whose supply covers the need in t, and what the search stops at is the first that will (`RoundSearches`).
use Rattle.std.proofs.Common.{arith}
use Rattle.admission.proofs.RoundSearches.{round_start, ends_past, ends_above, ends_at, goes_on}
use Rattle.admission.proofs.search.by_rounds.Goals as goal

pub loop-t-init : goal.loop-t-init
loop-t-init g c = (omega arith, omega arith, λ supply need least m n f. round_start m)

pub returns-then-due-need : goal.returns-then-due-need
returns-then-due-need g c supply need least m n f =
    let h = c.loop-t in
    ends_above m (h.invariant.2 supply need least m n f) (omega arith) c.needed-need.result (n h.t c.needed-need.result (omega arith) c.needed-need.ensures) (omega arith)

pub returns-then-next-t : goal.returns-then-next-t
returns-then-next-t g c supply need least m n f =
    let h = c.loop-t in
    ends_at m (h.invariant.2 supply need least m n f) (omega arith) c.needed-need.result (n h.t c.needed-need.result (omega arith) c.needed-need.ensures)
    c.first-next.result (f c.needed-need.result c.first-next.result (omega arith) c.first-next.ensures) _ (omega arith) (omega arith)

pub loop-t-preserved : goal.loop-t-preserved
loop-t-preserved g c =
    let h = c.loop-t in (
      omega arith,
      omega (arith, h.invariant.1),
      λ supply need least m n f.
          goes_on m (h.invariant.2 supply need least m n f) (omega arith) c.needed-need.result (n h.t c.needed-need.result (omega arith) c.needed-need.ensures)
          c.first-next.result (f c.needed-need.result c.first-next.result (omega arith) c.first-next.ensures) (omega arith),
    )

pub returns : goal.returns
returns g c supply need least m n f = ends_past m (c.loop-t.invariant.2 supply need least m n f) (omega arith)
