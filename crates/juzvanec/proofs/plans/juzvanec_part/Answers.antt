-- `juzvanec::plans::juzvanec_part` meets its contract: the part starts within the whole rows, and looked for from there on it is the same.
use Rattle.std.proofs.Common.{length, ap, ◌∙◌}
use native.Mathlib.Omega.{arith}
use Rattle.rows.specs.Part.{part_from}
use Rattle.rows.proofs.Parts.{start_le, part_at_start}
use Rattle.juzvanec.proofs.plans.juzvanec_part.Goals as goal

pub overflow_mul-start : goal.overflow_mul-start
overflow_mul-start c = omega (arith, start_le c.args.tasks.now c.args.vcpu)

pub returns-clause-length_after : goal.returns-clause-length_after
returns-clause-length_after c =
    let tasks = c.args.tasks.now in
    rw (c.part_from.ensures, c.part_start-first.ensures, part_at_start tasks c.args.vcpu)
