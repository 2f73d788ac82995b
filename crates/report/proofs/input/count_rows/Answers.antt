-- `report::input::count_rows` meets its contract: each count says where the next one stands.
use Rattle.report.specs.Input.{domain_count, vcpu_count, task_count}
use Rattle.report.proofs.input.count_rows.Goals as goal

pub returns : goal.returns
unfolding domain_count vcpu_count task_count
returns c =
    let d = c.word_in-domains.ensures in
    let v = c.word_in-vcpus.ensures in
    let t = c.word_in-tasks.ensures in
    (d, rw d at v, rw (rw d at v, d) at t)
