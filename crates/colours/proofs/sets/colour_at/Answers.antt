-- `colours::sets::colour_at` meets its contract. The loop's invariant: the colour looked for is the one at place `left` among the set's
-- colours from `colour` on. The measure is how many colours are left.
use Prim.Native.Nat.{ℕ, suc}
use native.Mathlib.Omega.{arith}
use mathlib.Core.Path.{◌≡◌, sym, ◌∙◌}
use Rattle.lists.proofs.PassingNumbers.{ahead_start, ahead_take, ahead_skip, ahead_end}
use Rattle.colours.specs.Sets.{has, colour_at, colours_below}
use Rattle.colours.proofs.Ranges.{own_colour}
use Rattle.colours.proofs.sets.colour_at.Goals as goal
use Rattle.colours.proofs.sets.colour_at.Goals.{Joined-has_colour, Then-left-eq0, then-has_colour+else-left-eq0, else-has_colour}

pub loop-colour-init : goal.loop-colour-init
unfolding colour_at colours_below
loop-colour-init c = (omega arith, rw (ahead_start (has c.args.set) c.args.colours))

-- each colour is its own bit
asked : (c : Then-left-eq0) → has c.args.set c.loop-colour.colour ≡ c.has_colour.result
asked c = sym (c.has_colour.ensures ∙ own_colour _ _ (omega (arith, c.loop-colour-test.true)))

-- each colour is its own bit
asked_2 : (c : Joined-has_colour) → has c.args.set c.loop-colour.colour ≡ c.has_colour.result
asked_2 c = sym (c.has_colour.ensures ∙ own_colour _ _ (omega (arith, c.loop-colour-test.true)))

pub returns-then-left-eq0 : goal.returns-then-left-eq0
returns-then-left-eq0 c =
    let a = c.args in
    let v = c.loop-colour.invariant in
    let i : ℕ = c.loop-colour.colour in
    let here = asked c ∙ c.if-has_colour.true in
    sym (v.1 ∙ rw (ahead_take (has a.set) i a.colours c.loop-colour-test.true here, c.if-left-eq0.true))

pub loop-colour-preserved : goal.loop-colour-preserved
loop-colour-preserved c =
    let a = c.args in
    let h = c.loop-colour in
    let i : ℕ = h.colour in
    let l = c.loop-colour-test.true in
    let p = has a.set in
    let is = asked_2 c in
    elim c.if-has_colour.branch [
      | then-has_colour+else-left-eq0 w ↦
          let one : h.left ≡ suc c.if-has_colour.left = omega (arith, w.left-is, w.if-left-eq0.false) in
          (omega arith, h.invariant.1 ∙ rw (ahead_take p i a.colours l (is ∙ w.if-has_colour.true), one))
      | else-has_colour w ↦ (omega arith, h.invariant.1 ∙ rw (ahead_skip p i a.colours l (is ∙ w.if-has_colour.false), w.left-is))
    ]

pub returns : goal.returns
returns c =
    let a = c.args in
    let h = c.loop-colour in
    sym (h.invariant.1 ∙ rw (ahead_end (has a.set) h.colour a.colours (omega arith)))
