-- `rows::own_rows::next_own` meets its contract: the test is that of the next row of the VCPU.
use Rattle.std.proofs.Common.{rules, nat_eq}
use Rattle.rows.proofs.own_rows.next_own.Goals as goal

pub returns : goal.returns
returns c = c.next_row.ensures (λ v. nat_eq v c.args.vcpu) (λ v yes r. search (rules))
