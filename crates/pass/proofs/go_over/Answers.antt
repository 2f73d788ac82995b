-- `pass::go_over` meets its contract, by the laws of a pass under way (`BlockSequence`, `PassInvariant`).
use Prim.Native.Nat.{ℕ, ◌+◌, ◌<◌}
use native.Mathlib.Omega.{arith}
use mathlib.Core.Path.{◌≡◌, refl, sym, ap, ◌∙◌}
use Rattle.lists.specs.Range.{is_at, lowest}
use Rattle.tally.specs.Tally.{zeros, start, take_all}
use Rattle.table_words.proofs.LowestFound.{found_low, found_none}
use Rattle.pass.specs.Steps.{read}
use Rattle.pass.proofs.PassInvariant.{going_start, as_far, going_found, going_past, going_over, going_end}
use Rattle.pass.proofs.go_over.Goals as goal
use Rattle.pass.proofs.go_over.Goals.{In-Some, then-take_in+in_default, else-take_in}

pub loop-taken-init : goal.loop-taken-init
unfolding zeros
loop-taken-init c = going_start _ _ _ _ c.words_read-end.ensures

low : (c : In-Some) → (c.in-Some.lane ≡ lowest (is_at c.take_in.new.block c.args.word) 16) × (c.in-Some.lane < 16)
low c = found_low _ _ _ (sym c.lane_of.ensures ∙ c.in-Some.is)

pub overflow_add-taken-in-Some : goal.overflow_add-taken-in-Some
overflow_add-taken-in-Some c = omega (arith, (low c).1, c.loop-taken.invariant.turn.ends)

pub overflow_add-taken-in-Some-2 : goal.overflow_add-taken-in-Some-2
overflow_add-taken-in-Some-2 c = omega (arith, (low c).1, c.loop-taken.invariant.turn.ends)

pub returns-in-Some : goal.returns-in-Some
returns-in-Some c =
    let r = low (goal.at.returns-in-Some c).In-Some in
    c.found.ensures
    ∙ going_found _ _ _ c.loop-taken.invariant (omega arith) (c.take_in.ensures.value, (c.take_in.ensures.held_after, c.take_in.ensures.block_after)) _ r.0 r.1
    ∙ ap (λ (n : ℕ). take_all (start c.args.word n) (read c.args.table.now)) c.new-own.ensures

pub loop-taken-preserved : goal.loop-taken-preserved
loop-taken-preserved c =
    let v = c.loop-taken.invariant in
    let e = c.take_in.ensures in
    as_far _ _ _ (c.loop-taken.taken + 16) (omega arith)
    (elim c.if-take_in.branch [
      | then-take_in+in_default w ↦ rw w.free-is (going_past _ _ _ v (omega arith) (e.value, (e.held_after, e.block_after)) _ refl (found_none _ _ (sym w.lane_of.ensures ∙ w.in_default.is)) _ w.note-free.ensures)
      | else-take_in w ↦ rw w.free-is (going_over _ _ _ v (omega arith) (e.value, (e.held_after, e.block_after)) w.if-take_in.false)
    ])

pub returns : goal.returns
returns c =
    c.finish.ensures
    ∙ going_end _ _ _ c.loop-taken.invariant _ (omega arith)
    ∙ ap (λ (n : ℕ). take_all (start c.args.word n) (read c.args.table.now)) c.new-own.ensures
