-- `taking_back::move_back` meets its contract. The invariant: the moves back from here on, on the table as it is, leave what all of them do.
use Rattle.std.proofs.Common.{ℕ, ◌<◌, List, arith, sym, ap, ◌∙◌, length}
use mathlib.Core.Path.{ap₂}
use lib.ListN.{set, length-set}
use Rattle.calls.specs.Calls.{Move, move}
use Rattle.calls.specs.TakeBack.{back}
use Rattle.taking_back.proofs.TakenBackReply.{frames_below, back_next, back_end}
use Rattle.taking_back.proofs.move_back.Goals as goal
use Rattle.taking_back.proofs.move_back.Goals.{After-triple_at-triple}

-- the frames of the triple are there
there : (c : After-triple_at-triple) → (c.triple_at-triple.result.old < length c.loop-i.table) × (c.triple_at-triple.result.new < length c.loop-i.table)
there c =
    let below = frames_below _ _ c.requires.0 c.loop-i.invariant c.loop-i-test.true in (
      omega (arith, below.0, ap (λ (m : Move). m.source) c.triple_at-triple.ensures),
      omega (arith, below.1, ap (λ (m : Move). m.target) c.triple_at-triple.ensures),
    )

pub bounds-table-triple : goal.bounds-table-triple
bounds-table-triple c = (there (goal.at.bounds-table-triple c).After-triple_at-triple).1

pub loop-i-preserved : goal.loop-i-preserved
loop-i-preserved c =
    let t : List ℕ = c.loop-i.table in
    let m = c.triple_at-triple.result in
    let same = ap₂ (λ (gone word : ℕ). set (set t m.new gone) m.old word) c.take.ensures.after c.take.ensures.value ∙ ap (λ (k : Move). move t (back k)) c.triple_at-triple.ensures in
    rw same (back_next _ _ c.requires.0 c.loop-i.invariant c.loop-i-test.true)

pub bounds-table-triple-in-loop-i : goal.bounds-table-triple-in-loop-i
bounds-table-triple-in-loop-i c = simp length-set (there (goal.at.bounds-table-triple-in-loop-i c).After-triple_at-triple).0

pub returns : goal.returns
returns c = sym (back_end _ _ c.requires.0 c.loop-i.invariant (omega (arith, c.loop-i-test.false)))
