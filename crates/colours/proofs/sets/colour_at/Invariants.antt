-- `colours::sets::colour_at` meets its contract. The loop's invariant: the colour looked for is the one at place `left` among the set's
-- colours from `colour` on. The measure is how many colours are left.
use Prim.Native.Nat.{◌≤◌}
use mathlib.Core.Path.{◌≡◌}
use lib.ListN.{get_or}
use Rattle.lists.proofs.PassingNumbers.{ahead}
use Rattle.colours.specs.Sets.{has, colour_at}
use Rattle.colours.proofs.sets.colour_at.Given as goal

abbrev pub invariant-loop-colour : goal.invariant-loop-colour
invariant-loop-colour l = (l.colour ≤ l.colours) × (colour_at l.colours l.set l.place ≡ get_or (ahead (has l.set) l.colour l.colours) l.left 0)
