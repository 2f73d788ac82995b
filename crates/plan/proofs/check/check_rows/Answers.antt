-- `plan::check::check_rows` meets its contract: refusals 17 to 20 in their order, each of the lowest row at fault.
use Rattle.std.proofs.Common.{rules, ◌≡◌, true, false, sym, ◌∙◌}
use Rattle.std.proofs.lemmas.Iterator.{first_from_Range}
use Rattle.lists.specs.Range.{lowest_below}
use Rattle.lists.proofs.Finds.{lowest_found}
use Rattle.rows.specs.RowWords.{vcpu_rows, task_rows}
use Rattle.plan.specs.Tests.{bad_vcpu, bad_task, bad_order, shares_colour, shares_with_later}
use Rattle.plan.proofs.RowFaults.{vcpu_refused, task_refused, order_refused, sharing_refused, none_refused}
use Rattle.plan.proofs.Sharing.{sharing_found}
use Rattle.plan.proofs.check.check_rows.Goals as goal
use Rattle.plan.proofs.check.check_rows.Goals.{After-find, After-find-2, After-find-3, After-find-4}

vcpu : (c : After-find) → c.find.result ≡ lowest_below (bad_vcpu c.args.board.now c.args.vcpus.now) (vcpu_rows c.args.vcpus.now)
vcpu c =
    let bad = bad_vcpu c.args.board.now c.args.vcpus.now in
    lowest_found bad (vcpu_rows c.args.vcpus.now) _
    (first_from_Range _ _ _ c.find.result (λ x. bad x ≡ true) (λ x. bad x ≡ false) c.find.ensures.ran (λ x q k. search rules) (λ x q k. search rules))

task : (c : After-find-2) → c.find-2.result ≡ lowest_below (bad_task c.args.board.now c.args.vcpus.now c.args.tasks.now) (task_rows c.args.tasks.now)
task c =
    let bad = bad_task c.args.board.now c.args.vcpus.now c.args.tasks.now in
    lowest_found bad (task_rows c.args.tasks.now) _
    (first_from_Range _ _ _ c.find-2.result (λ x. bad x ≡ true) (λ x. bad x ≡ false) c.find-2.ensures.ran (λ x q k. search rules) (λ x q k. search rules))

order : (c : After-find-3) → c.find-3.result ≡ lowest_below (bad_order c.args.tasks.now) (task_rows c.args.tasks.now)
order c =
    let bad = bad_order c.args.tasks.now in
    lowest_found bad (task_rows c.args.tasks.now) _
    (first_from_Range _ _ _ c.find-3.result (λ x. bad x ≡ true) (λ x. bad x ≡ false) c.find-3.ensures.ran (λ x q k. search rules) (λ x q k. search rules))

sharing : (c : After-find-4) → c.find-4.result ≡ lowest_below (shares_colour c.args.tasks.now) (task_rows c.args.tasks.now)
sharing c =
    let shares = shares_with_later c.args.tasks.now in
    sharing_found c.args.tasks.now _
    (first_from_Range _ _ _ c.find-4.result (λ x. shares x ≡ true) (λ x. shares x ≡ false) c.find-4.ensures.ran (λ x q k. search rules) (λ x q k. search rules))

pub returns-in-Some : goal.returns-in-Some
returns-in-Some c =
    let k = goal.at.returns-in-Some c in
    vcpu_refused _ _ _ (sym (vcpu k.After-find) ∙ c.in-Some.is)

pub returns-in-Some-find : goal.returns-in-Some-find
returns-in-Some-find c =
    let k = goal.at.returns-in-Some-find c in
    task_refused _ _ _ (sym (vcpu k.After-find) ∙ c.in_default.is) (sym (task k.After-find-2) ∙ c.in-Some-find.is)

pub returns-in-Some-find-2 : goal.returns-in-Some-find-2
returns-in-Some-find-2 c =
    let k = goal.at.returns-in-Some-find-2 c in
    order_refused _ _ _ (sym (vcpu k.After-find) ∙ c.in_default.is) (sym (task k.After-find-2) ∙ c.in_default-find.is) (sym (order k.After-find-3) ∙ c.in-Some-find-2.is)

pub returns-in-Some-find-3 : goal.returns-in-Some-find-3
returns-in-Some-find-3 c =
    let k = goal.at.returns-in-Some-find-3 c in
    sharing_refused _ _ _ (sym (vcpu k.After-find) ∙ c.in_default.is) (sym (task k.After-find-2) ∙ c.in_default-find.is) (sym (order k.After-find-3) ∙ c.in_default-find-2.is) (sym (sharing k.After-find-4) ∙ c.in-Some-find-3.is)

pub returns : goal.returns
returns c =
    let k = goal.at.returns c in
    none_refused _ _ _ (sym (vcpu k.After-find) ∙ c.in_default.is) (sym (task k.After-find-2) ∙ c.in_default-find.is) (sym (order k.After-find-3) ∙ c.in_default-find-2.is) (sym (sharing k.After-find-4) ∙ c.in_default-find-3.is)
