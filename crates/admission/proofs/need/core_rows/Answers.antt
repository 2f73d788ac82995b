-- `admission::need::core_rows` meets its contract, by the laws of rows for the VCPUs of a core (`CoreVcpus`).
use native.Mathlib.Omega.{arith}
use Prim.Native.Nat.{◌<◌}
use mathlib.Core.Path.{refl, sym, ◌∙◌}
use lib.ListN.{length-set}
use Rattle.admission.proofs.CoreVcpus.{on_core_start, on_core_hit, on_core_miss}
use Rattle.admission.proofs.need.core_rows.Goals as goal
use Rattle.admission.proofs.need.core_rows.Goals.{then-vcpu_word-core, else-vcpu_word-core}

pub loop-j-init : goal.loop-j-init
loop-j-init c = (on_core_start _ _ _, refl)

pub loop-j-preserved : goal.loop-j-preserved
loop-j-preserved c =
    let a = c.args in
    let h = c.loop-j in
    let here = c.vcpu_word.ensures in
    let own = c.vcpu_word-core.ensures in
    let row = c.requires.0.row h.j (omega (arith, c.requires.1)) in
    let below : h.count < 16 = omega (arith, c.requires.0.few, c.requires.1, h.invariant.0.few) in
    elim c.if-vcpu_word-core.branch [
      | then-vcpu_word-core w ↦
          let entered = on_core_hit a.vcpus.now a.i h.invariant.0 (sym here ∙ w.if-vcpu_word-core.true ∙ own) row _ w.vcpu_word-then-vcpu_word-core.ensures w.vcpu_word-then-vcpu_word-core-2.ensures (omega (arith, below, h.invariant.1)) in
          rw (w.count-is, w.rows-is) (entered, length-set h.rows _ _ ∙ h.invariant.1)
      | else-vcpu_word-core w ↦
          rw (w.count-is, w.rows-is) (on_core_miss a.vcpus.now a.i h.invariant.0 (λ e. w.if-vcpu_word-core.false (here ∙ e ∙ sym own)), h.invariant.1)
    ]
