-- `choice::choosing::keys_of` meets its contract. The invariant: the colours passed have their key.
use Rattle.std.proofs.Common.{ℕ, get_or}
use Rattle.lists.proofs.FilledArrays.{Filled}
use Rattle.calls.specs.OnePass.{held_by}
use Rattle.choice.specs.Keys.{full_key, key_of}
use Rattle.choice.proofs.choosing.keys_of.Given as goal

abbrev pub invariant-loop-number : goal.invariant-loop-number
invariant-loop-number l = Filled (key_of l.count l.frames l.set (held_by l.count l.held) (λ (y : ℕ). get_or l.frees y 0)) full_key l.keys l.number
