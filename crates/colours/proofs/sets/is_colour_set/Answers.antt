-- `colours::sets::is_colour_set` meets its contract: from 32 colours on no set of 32 bits has a bit too high.
use native.Mathlib.Nat.{div-eq_of_lt, lt_of_lt_of_le}
use lib.Pow.{pow_mono}
use borrow.Author.Tests.{eq-eqb, ne_eqb}
use Rattle.colours.specs.Sets.{is_colour_set}
use Rattle.colours.proofs.sets.is_colour_set.Goals as goal

pub returns-then-set-eq0 : goal.returns-then-set-eq0
unfolding is_colour_set
returns-then-set-eq0 c = simp (eq-eqb _ _ c.if-set-eq0.true)

pub returns-then-colours-ge32 : goal.returns-then-colours-ge32
unfolding is_colour_set
returns-then-colours-ge32 c =
    let a = c.args in
    simp
    (ne_eqb _ _ c.if-set-eq0.false, div-eq_of_lt (lt_of_lt_of_le c.ranges.set.fits (pow_mono c.if-colours-ge32.true)))

pub returns : goal.returns
unfolding is_colour_set
returns c = simp (ne_eqb _ _ c.if-set-eq0.false)
