-- `rows::arrival::charges` meets its contract, by the laws of going down from row i (`Charging`).
use Prim.Native.Nat.{◌-◌}
use native.Mathlib.Omega.{arith}
use lib.Bits.{or_comm}
use Rattle.rows.proofs.Charging.{charging_start, charging_next, charging_end}
use Rattle.rows.proofs.arrival.charges.Goals as goal

pub loop-j-init : goal.loop-j-init
loop-j-init c =
    let a = c.args in
    charging_start a.reload a.tasks.now a.i _ _ c.planned-j.ensures c.task_word-held.ensures

pub loop-j-preserved : goal.loop-j-preserved
loop-j-preserved c =
    let d = c in
    let a = d.args in
    let h = d.loop-j in
    charging_next a.reload a.tasks.now a.i h.invariant (h.j - 1) c.charge.result _ (omega arith) c.charge.ensures
    (cc (c.task_word-held-in-loop-j.ensures, or_comm c.task_word-held-in-loop-j.result h.held))

pub returns : goal.returns
returns c = let a = c.args in charging_end a.reload a.tasks.now a.i c.loop-j.invariant (omega arith)
