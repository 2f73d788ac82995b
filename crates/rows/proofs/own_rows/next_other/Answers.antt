-- `rows::own_rows::next_other` meets its contract: the test is that of the next row of another VCPU.
use Rattle.std.proofs.Common.{rules, nat_eq, not}
use Rattle.rows.proofs.own_rows.next_other.Goals as goal

pub returns : goal.returns
returns c = c.next_row.ensures (λ v. not (nat_eq v c.args.vcpu)) (λ v yes r. search (rules))
