-- `board_tests::domains::in_order` meets its contract: the next domain is not at fault, and past the last none is.
use Rattle.std.proofs.Common.{◌≡◌, ◌-◌, false, arith, sym, ◌∙◌}
use borrow.Author.Tests.{ne_eqb, eq-eqb}
use lib.Bits.{bit_and, and_le_l}
use Rattle.board.specs.Tests.{grant, active_set, empty_or_outside}
use Rattle.board_tests.proofs.FaultlessBoard.{passed_next, in_order_reply}
use Rattle.board_tests.proofs.domains.in_order.Goals as goal

pub loop-d-preserved : goal.loop-d-preserved
loop-d-preserved c =
    let b = c.args.board.now in
    let h = c.loop-d in
    let inside : active_set b h.d - bit_and (active_set b h.d) (grant b h.d) ≡ 0 = omega arith in
    let whole : bit_and (active_set b h.d) (grant b h.d) ≡ active_set b h.d = omega (arith, inside, and_le_l (active_set b h.d) (grant b h.d)) in
    let set : empty_or_outside (grant b h.d) (active_set b h.d) ≡ false = simp (ne_eqb _ _ c.if-set-eq0.false, eq-eqb _ _ whole) in
    (omega arith, passed_next b h.d h.seen h.invariant.1 set (omega arith))

pub returns : goal.returns
returns c =
    let b = c.args.board.now in
    let h = c.loop-d in
    let done : h.d ≡ b.domains = omega arith in
    λ e. in_order_reply b h.seen (rw done at h.invariant.1) (sym c.is_colour_set.ensures ∙ e)
