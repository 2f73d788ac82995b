-- `colours::sets::has_colour` meets its contract: the shift and the remainder are the definition.
use mathlib.Core.Path.{refl}
use Rattle.colours.specs.Sets.{has}
use Rattle.colours.proofs.sets.has_colour.Goals as goal

pub returns : goal.returns
unfolding has
returns c = refl
