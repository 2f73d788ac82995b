-- `choice::lane_sums::sum_all` meets its contract. The invariant: what is summed up, with the lanes ahead.
use Rattle.std.proofs.Common.{◌≡◌, ℕ, ◌+◌, ◌-◌, ◌%◌, ◌<◌, ap, arith, le-ltb, lt-ltb}
use lib.Bits.{bit_and}
use Rattle.choice.specs.LaneSums.{lanes_of}
use Rattle.choice.proofs.Counts.{lanes_within}
use Rattle.choice.proofs.LaneLoops.{sum_start, sum_add, sum_rest}
use Rattle.choice.proofs.lane_sums.sum_all.Goals as goal

-- the end of the lanes that are summed up
end_is : (n : ℕ) → bit_and ((0 + (18446744073709551616 - n)) % 18446744073709551616) 16 ≡ lanes_of n
unfolding lanes_of
end_is n = ap (λ x. bit_and (x % 18446744073709551616) 16) (omega arith)

pub loop-lane-init : goal.loop-lane-init
loop-lane-init c = sum_start _ _

pub loop-lane-preserved : goal.loop-lane-preserved
loop-lane-preserved c =
    let n = c.args.colours in
    let l : c.loop-lane.lane < lanes_of n = omega (arith, end_is n) in
    rw c.from-sum.ensures (sum_add _ _ c.loop-lane.invariant (omega (arith, lanes_within n, l)) (omega (arith, c.loop-lane-test.element_fits)) (lt-ltb c.loop-lane.lane (lanes_of n) l))

pub returns : goal.returns
returns c =
    let n = c.args.colours in
    sum_rest _ _ c.loop-lane.invariant (omega (arith, lanes_within n, end_is n, c.loop-lane.auto)) (λ i l. le-ltb i (lanes_of n) (omega (arith, l, end_is n)))
