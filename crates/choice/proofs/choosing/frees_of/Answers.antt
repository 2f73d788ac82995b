-- `choice::choosing::frees_of` meets its contract. The invariant: the colours passed have their frame.
use Rattle.std.proofs.Common.{arith}
use Rattle.choice.proofs.Counts.{count_within}
use Rattle.choice.proofs.choosing.frees_of.Goals as goal

pub invariant_of-free_of : goal.invariant_of-free_of
invariant_of-free_of c = record { below = c.loop-number-test.true; few = omega (arith, count_within c.args.colours, c.as_count-count.ensures) }
