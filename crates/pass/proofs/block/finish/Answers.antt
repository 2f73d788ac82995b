-- `pass::block::finish` meets its contract: no word matters, or those read stand in front of the block that is looked through (`BlockTally`).
use Prim.Native.Nat.{◌<◌}
use native.Mathlib.Omega.{arith}
use mathlib.Core.Path.{◌≡◌, refl, sym, ◌∙◌}
use lib.ListN.{length}
use Rattle.lists.specs.Range.{is_at, lowest}
use Rattle.table_words.proofs.LowestFound.{found_low, found_none}
use Rattle.pass.proofs.BlockTally.{by_word, by_other, by_none}
use Rattle.pass.proofs.block.finish.Goals as goal
use Rattle.pass.proofs.block.finish.Goals.{In-Some}

low : (c : In-Some) → (c.in-Some.lane ≡ lowest (is_at c.take_in.new.block c.args.word) (length c.args.words.now)) × (c.in-Some.lane < length c.args.words.now)
low c = found_low _ _ _ (sym c.lane_of.ensures ∙ c.in-Some.is)

pub overflow_add-taken : goal.overflow_add-taken
overflow_add-taken c = omega (arith, (low c).1, c.requires.0.counted)

pub overflow_add-taken-in-Some : goal.overflow_add-taken-in-Some
overflow_add-taken-in-Some c = omega (arith, (low c).1, c.requires.0.counted)

pub returns-in-Some : goal.returns-in-Some
returns-in-Some c =
    let r = low (goal.at.returns-in-Some c).In-Some in
    c.found.ensures
    ∙ by_word _ _ _ _ _ c.requires.0 refl (c.take_in.ensures.value, (c.take_in.ensures.held_after, c.take_in.ensures.block_after)) _ r.0 r.1

pub returns-then-take_in : goal.returns-then-take_in
returns-then-take_in c =
    c.so_far.ensures
    ∙ by_other _ _ _ _ _ c.requires.0 refl (c.take_in.ensures.value, (c.take_in.ensures.held_after, c.take_in.ensures.block_after)) _ refl (found_none _ _ (sym c.lane_of.ensures ∙ c.in_default.is)) _ c.note-noted.ensures

pub returns : goal.returns
returns c =
    c.so_far-2.ensures
    ∙ by_none _ _ _ _ _ c.requires.0 refl (c.take_in.ensures.value, (c.take_in.ensures.held_after, c.take_in.ensures.block_after)) c.if-take_in.false
