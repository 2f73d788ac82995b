-- `admit::read_input` is safe and ends: each turn but the last fills at least a byte of the room that is left.
use Rattle.std.proofs.Common.{◌-◌, ◌≤◌, length}
use Rattle.admit.proofs.read_input.Given as goal

abbrev pub invariant-loop-done : goal.invariant-loop-done
invariant-loop-done g l = l.done ≤ length l.kept

abbrev pub decreases-loop-done : goal.decreases-loop-done
decreases-loop-done g l = length l.kept - l.done
