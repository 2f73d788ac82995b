-- `pass::lanes::count_lanes` meets its contract, by the laws of a survey under way (`BlockSequence`, `SurveyInvariant`).
use Prim.Native.Nat.{ℕ, ◌*◌, ◌/◌}
use native.Mathlib.Omega.{arith}
use mathlib.Core.Path.{ap, ◌∙◌}
use Rattle.tally.specs.Tally.{is_own, zeros}
use Rattle.pass.specs.Steps.{read, is_free, lanes_of}
use Rattle.pass.proofs.BlockSequence.{AtTurn, turn_start, as_turn, sixteen, next_turn, rest_long}
use Rattle.pass.proofs.SurveyInvariant.{Tallied, tally_start, as_tallied, tally_fits, tally_on, tally_end, surveyed}
use Rattle.pass.proofs.lanes.count_lanes.Given.{Over}
use denote.Param.{number}
use Rattle.pass.specs.contracts.lanes.count_lanes.{FREE-type}
use Rattle.pass.proofs.lanes.count_lanes.Goals as goal
use Rattle.pass.proofs.lanes.count_lanes.Goals.{After-loop-block}

pub loop-block-init : goal.loop-block-init
unfolding zeros
loop-block-init g c = (turn_start _ _ c.words_read-end.ensures, tally_start _ _, tally_start _ _)

pub count_in-requires : goal.count_in-requires
count_in-requires g c =
    let h = c.loop-block.invariant in
    (omega (arith, sixteen _ h.0 (omega arith)), tally_fits _ _ h.1 h.0, tally_fits _ _ h.2 h.0)

pub loop-block-preserved : goal.loop-block-preserved
loop-block-preserved g c =
    let h = c.loop-block.invariant in (
      as_turn _ _ (omega arith) (next_turn _ h.0 (omega arith)),
      as_tallied _ _ _ (omega arith) (tally_on _ _ h.1 h.0 _ (omega arith) _ c.count_in.ensures.held_after),
      as_tallied _ _ _ (omega arith) (tally_on _ _ h.2 h.0 _ (omega arith) _ c.count_in.ensures.free_after),
    )

-- all whole blocks were counted
turn : {g : Over} (c : After-loop-block g) → let end = c.words_read-end.result in AtTurn c.args.table.now end (16 * (end / 16))
turn c = as_turn _ _ (omega arith) c.loop-block.invariant.0

held : {g : Over} (c : After-loop-block g) → Tallied (is_own c.new-own.result.first) c.args.table.now c.loop-block.held (16 * (c.words_read-end.result / 16))
held c = as_tallied _ _ _ (omega arith) c.loop-block.invariant.1

free : {g : Over} (c : After-loop-block g) → Tallied (is_free (FREE-type (number g.row.FREE))) c.args.table.now c.loop-block.free (16 * (c.words_read-end.result / 16))
free c = as_tallied _ _ _ (omega arith) c.loop-block.invariant.2

pub count_in-requires-2 : goal.count_in-requires-2
count_in-requires-2 g c =
    let a = (goal.at.count_in-requires-2 g c).After-loop-block in
    (omega (arith, rest_long _ (turn a)), tally_fits _ _ (held a) (turn a), tally_fits _ _ (free a) (turn a))

pub returns : goal.returns
returns g c =
    let a = (goal.at.returns g c).After-loop-block in
    surveyed (FREE-type (number g.row.FREE)) _ c.args.table.now _ _
    (tally_end _ _ (held a) (turn a) _ c.count_in-2.ensures.held_after)
    (tally_end _ _ (free a) (turn a) _ c.count_in-2.ensures.free_after)
    ∙ ap (λ (n : ℕ). lanes_of (FREE-type (number g.row.FREE)) n (read c.args.table.now)) c.new-own.ensures
