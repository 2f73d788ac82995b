-- `admit::read_on` is safe and ends: each turn forgets at least a byte of those that it may.
use Rattle.std.proofs.Common.{◌-◌, ◌≡◌, length}
use Rattle.admit.proofs.read_on.Given as goal

abbrev pub invariant-loop-forgotten : goal.invariant-loop-forgotten
invariant-loop-forgotten g l = 65536 ≡ length l.rest

abbrev pub decreases-loop-forgotten : goal.decreases-loop-forgotten
decreases-loop-forgotten g l = 1073741824 - l.forgotten
