-- `pass::lanes::count_in` meets its contract. The invariant: the words passed are counted.
use native.Mathlib.Omega.{arith}
use Rattle.pass.proofs.BlockLoops.{counted_start, counted_next, counted_less}
use Rattle.pass.proofs.lanes.count_in.Goals as goal

pub loop-i-init : goal.loop-i-init
loop-i-init g c = (counted_start _ _ _ c.requires.1, counted_start _ _ _ c.requires.2)

pub loop-i-preserved : goal.loop-i-preserved
loop-i-preserved g c =
    let h = c.loop-i in (
      counted_less _ _ _ h.invariant.0 c.loop-i-test.true (omega arith) _ c.count.ensures,
      counted_next _ _ _ h.invariant.1 c.loop-i-test.true (omega arith) _ c.free_frame.ensures,
    )
