-- `choice::choosing::frees_of` meets its contract. The invariant: the colours passed have their frame.
use Rattle.std.proofs.Common.{ℕ, if◌then◌else◌}
use Rattle.lists.proofs.FilledArrays.{Filled}
use Rattle.colours.specs.Sets.{has}
use Rattle.calls.specs.OnePass.{free_by}
use Rattle.choice.proofs.choosing.frees_of.Given as goal

abbrev pub invariant-loop-number : goal.invariant-loop-number
invariant-loop-number l = Filled (λ (x : ℕ). if has l.set x then free_by l.count l.frames l.lanes x else l.frames) 0 l.frees l.number
