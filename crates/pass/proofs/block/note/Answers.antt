-- `pass::block::note` meets its contract. The invariant: the free frames passed are noted.
use Prim.Native.Nat.{◌+◌}
use native.Mathlib.Omega.{arith}
use borrow.Author.Rules.{rules}
use Rattle.pass.proofs.BlockLoops.{BlockNoted, noted_start, noted_hit, noted_miss}
use Rattle.pass.proofs.block.note.Goals as goal
use Rattle.pass.proofs.block.note.Goals.{then-block-i, else-block-i}

pub loop-i-init : goal.loop-i-init
loop-i-init c = (search rules, noted_start _ _ _ (search rules))

pub loop-i-preserved : goal.loop-i-preserved
loop-i-preserved c =
    let h = c.loop-i in
    let further : BlockNoted c.args.free c.args.taken c.args.block c.if-block-i.next (h.i + 1) =
    elim c.if-block-i.branch [
      | then-block-i w ↦ rw w.next-is (noted_hit _ _ _ h.invariant.1 (omega arith) c.requires.aligned (omega arith) w.if-block-i.true)
      | else-block-i w ↦ rw w.next-is (noted_miss _ _ _ h.invariant.1 (omega arith) c.requires.aligned (omega arith) w.if-block-i.false)
    ] in
    (h.invariant.0, further)
