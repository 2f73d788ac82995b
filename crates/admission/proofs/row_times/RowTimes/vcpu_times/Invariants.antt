-- `admission::row_times::RowTimes::vcpu_times` meets its contract. The invariant: no row passed is late, and their times stand at the front (`RowLoops`).
use Rattle.times.specs.Times.{vcpu_time}
use Rattle.times.specs.Rounds.{vcpu_rounds}
use Rattle.admission.proofs.RowLoops.{Timing}
use Rattle.admission.proofs.row_times.RowTimes.vcpu_times.Given as goal

abbrev pub invariant-loop-i : goal.invariant-loop-i
invariant-loop-i l = Timing (vcpu_time l.vcpus) (vcpu_rounds l.vcpus) l.rows 0 l.initial.self l.i l.self
