-- `colours::sets::place_of` meets its contract: the mask keeps the colours below, and the place is their count (`place_ones`).
use lib.Bits.{and_mask}
use Rattle.colours.proofs.Bits.{one_shl, place_ones}
use Rattle.colours.proofs.sets.place_of.Goals as goal

pub returns : goal.returns
returns c =
    let k = c.args.colour in
    rw (one_shl 32 k c.requires, and_mask c.args.set k, place_ones c.args.set k)
