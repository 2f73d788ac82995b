-- `admission::need::core_rows` meets its contract, by the laws of rows for the VCPUs of a core (`CoreVcpus`).
use mathlib.Core.Path.{◌≡◌}
use lib.ListN.{length}
use Rattle.admission.specs.EarlierRows.{OnCore}
use Rattle.admission.proofs.need.core_rows.Given as goal

abbrev pub invariant-loop-j : goal.invariant-loop-j
invariant-loop-j l = OnCore l.vcpus l.i l.j l.count l.rows × (length l.rows ≡ 16)
