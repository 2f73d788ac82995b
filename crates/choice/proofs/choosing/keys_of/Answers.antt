-- `choice::choosing::keys_of` meets its contract. The invariant: the colours passed have their key.
use Rattle.std.proofs.Common.{ℕ, ◌≤◌, get_or, sym, ap, ◌∙◌, lt_irrefl, arith}
use Rattle.lists.proofs.CaseSplits.{below_or_not}
use Rattle.lists.proofs.FilledArrays.{fill_next}
use Rattle.calls.specs.OnePass.{held_by}
use Rattle.choice.specs.Keys.{full_key, key_of}
use Rattle.choice.proofs.Counts.{count_within}
use Rattle.choice.proofs.Keys.{key_other}
use Rattle.choice.proofs.choosing.keys_of.Goals as goal
use Rattle.choice.proofs.choosing.keys_of.Goals.{After-as_count-count}

few : (c : After-as_count-count) → c.as_count-count.result ≤ 16
few c = omega (arith, count_within c.args.colours, c.as_count-count.ensures)

pub offset_bounds-frees-number : goal.offset_bounds-frees-number
offset_bounds-frees-number c = omega (arith, few (goal.at.offset_bounds-frees-number c).After-as_count-count)

pub bounds-frees-number : goal.bounds-frees-number
bounds-frees-number c = omega (arith, few (goal.at.bounds-frees-number c).After-as_count-count)

pub invariant_of-key_of : goal.invariant_of-key_of
invariant_of-key_of c = record { below = c.loop-number-test.true; few = few (goal.at.invariant_of-key_of c).After-as_count-count }

pub loop-number-preserved : goal.loop-number-preserved
unfolding key_of
loop-number-preserved c =
    fill_next _ full_key _ c.loop-number.invariant (omega (arith, few (goal.at.loop-number-preserved c).After-as_count-count)) c.key_of.ensures

pub returns : goal.returns
returns c =
    λ x l.
    let h = c.loop-number in
    let n = ap (λ (m : ℕ). key_of m c.args.frames c.args.set (held_by m c.args.held) (λ (y : ℕ). get_or c.args.frees.now y 0) x) c.as_count-count.ensures in
    below_or_not x h.number (λ k. h.invariant.front x k ∙ n)
    (λ k. h.invariant.back x k l ∙ sym (key_other _ _ _ _ _ x (λ o. absurd (lt_irrefl x (omega (arith, o, k, c.as_count-count.ensures))))))
