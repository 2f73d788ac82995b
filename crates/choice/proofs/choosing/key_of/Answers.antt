-- `choice::choosing::key_of` meets its contract, by the cases of the key (`Keys`).
use Rattle.std.proofs.Common.{◌≡◌, ℕ, ◌+◌, ◌*◌, ◌%◌, sym, ap, ◌∙◌, arith}
use Rattle.colours.specs.Sets.{has}
use Rattle.colours.proofs.Ranges.{own_colour}
use Rattle.choice.proofs.Keys.{key_word, key_full, key_outside}
use Rattle.choice.proofs.choosing.key_of.Goals as goal
use Rattle.choice.proofs.choosing.key_of.Goals.{After-has_colour}

-- the colour itself is asked for
asked : (c : After-has_colour) → has c.args.set c.args.colour.number ≡ c.has_colour.result
asked c = let x = c.args.colour in sym (c.has_colour.ensures ∙ own_colour c.args.set x.number (omega (arith, x.below, x.few)))

pub returns-then-frames-free : goal.returns-then-frames-free
returns-then-frames-free c = sym (key_full _ _ _ _ _ _ c.if-frames-free.true)

pub returns-then-has_colour : goal.returns-then-has_colour
returns-then-has_colour c =
    ap (λ (s : ℕ). (16 * s + c.args.colour.number) % 65536) c.sum_of.ensures.0
    ∙ sym (key_word _ _ _ _ _ _ c.args.colour.below (asked (goal.at.returns-then-has_colour c).After-has_colour ∙ c.if-has_colour.true) c.if-frames-free.false)

pub returns : goal.returns
returns c = sym (key_outside _ _ _ _ _ _ (asked (goal.at.returns c).After-has_colour ∙ c.if-has_colour.false))
