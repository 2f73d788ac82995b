-- `colours::pages::drop_colour_bits` meets its contract: the laws of `DroppedBits` at a width of 32 bits.
use mathlib.Core.Logic.{⊎_elim}
use mathlib.Core.Path.{sym, ◌∙◌}
use Rattle.colours.proofs.DroppedBits.{drop_none, drop_low, drop_nothing, masked, shifted}
use Rattle.colours.proofs.pages.drop_colour_bits.Goals as goal

pub returns-then-bits-kept : goal.returns-then-bits-kept
returns-then-bits-kept c =
    let a = c.args in
    ⊎_elim (λ w. sym (drop_none a.bits a.kept a.page w))
    (λ w. sym (drop_nothing 32 a.page c.ranges.page.fits a.bits a.kept w.1))
    c.then-bits-kept.either

pub returns-then-bits-ge32 : goal.returns-then-bits-ge32
returns-then-bits-ge32 c =
    let s = c in
    let a = s.args in
    masked 32 a.page s.ranges.page.fits a.kept c.if-kept-ge32.false
    ∙ sym (drop_low 32 a.page s.ranges.page.fits a.bits a.kept c.if-bits-kept.false c.if-bits-ge32.true)

pub returns : goal.returns
returns c =
    let s = c in
    let a = s.args in
    rw (masked 32 a.page s.ranges.page.fits a.kept c.if-kept-ge32.false)
    (shifted 32 a.page s.ranges.page.fits a.bits a.kept c.if-bits-kept.false)
