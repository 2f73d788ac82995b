-- `pass::go_over` meets its contract, by the laws of a pass under way (`BlockSequence`, `PassInvariant`).
use Prim.Native.Nat.{◌-◌}
use Rattle.pass.proofs.PassInvariant.{PassUnderWay}
use Rattle.pass.proofs.go_over.Given as goal

abbrev pub invariant-loop-taken : goal.invariant-loop-taken
invariant-loop-taken l = PassUnderWay l.table l.word l.own.first l.end l.held l.free l.taken

abbrev pub decreases-loop-taken : goal.decreases-loop-taken
decreases-loop-taken l = l.end - l.taken
