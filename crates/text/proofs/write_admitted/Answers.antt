-- `text::write_admitted` meets its contract: the lines of VCPUs, of tasks, and the last line, of no more times than there are.
use Prim.Native.Nat.{◌≤◌}
use native.Mathlib.Omega.{arith}
use mathlib.Core.Path.{◌≡◌, refl}
use lib.ListN.{length, take}
use lib.Seq.{length-take-le}
use Rattle.text.specs.Text.{admitted_lines, vcpu_part, task_part}
use Rattle.text.proofs.Writing.{wrote_append, wrote_length, wrote_over}
use Rattle.text.proofs.write_admitted.Goals as goal
use Rattle.text.proofs.write_admitted.Goals.{After-min-2}

-- as many times of tasks as are asked for
tasks_long : (c : After-min-2) → length (take c.min-2.result c.split_at.result.1.now) ≡ c.min-2.result
tasks_long c = length-take-le c.min-2.result c.split_at.result.1.now (omega (arith, c.min.ensures, c.min-2.ensures, c.split_at.ensures.back_len))

pub lines-requires-2 : goal.lines-requires-2
lines-requires-2 c = omega (arith, tasks_long (goal.at.lines-requires-2 c).After-min-2, wrote_length c.lines.ensures.all)

pub bytes-requires : goal.bytes-requires
bytes-requires c = omega (arith, tasks_long (goal.at.bytes-requires c).After-min-2, wrote_length c.lines.ensures.all, wrote_length c.lines-2.ensures.all)

pub returns : goal.returns
unfolding admitted_lines
returns c =
    let a = c.args in
    let vcpus : c.split_at.result.0.now ≡ vcpu_part a.vcpus a.times.now = rw (c.split_at.ensures.front, c.min.ensures) refl in
    let tasks : take c.min-2.result c.split_at.result.1.now ≡ task_part a.vcpus a.tasks a.times.now = rw (c.split_at.ensures.back, c.min.ensures, c.min-2.ensures) refl in
    let all = wrote_append (rw vcpus at c.lines.ensures.all) (wrote_append (rw tasks at c.lines-2.ensures.all) c.bytes.ensures) in
    let long : c.bytes.new.self.end ≤ length a.text.now = omega (arith, tasks_long (goal.at.returns c).After-min-2, c.bytes.ensures.end_after) in
    record { holds = (omega (arith, all.end_after), omega (arith, long, wrote_length all), wrote_over all refl (omega (arith, long, all.end_after))) }
