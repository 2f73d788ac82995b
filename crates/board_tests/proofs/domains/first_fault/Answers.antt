-- `board_tests::domains::first_fault` meets its contract: refusals 5 to 7 in their order, each of the lowest domain at fault.
use Rattle.std.proofs.Common.{rules, ◌≡◌, true, false, sym, ◌∙◌}
use Rattle.std.proofs.lemmas.Iterator.{first_from_Range}
use Rattle.lists.specs.Range.{lowest_below}
use Rattle.lists.proofs.Finds.{lowest_found}
use Rattle.board.specs.Tests.{bad_grant, shares_with_another, bad_active}
use Rattle.board_tests.proofs.DomainFaults.{grant_refused, sharing_refused, active_refused, none_refused}
use Rattle.board_tests.proofs.domains.first_fault.Goals as goal
use Rattle.board_tests.proofs.domains.first_fault.Goals.{After-find, After-find-2, After-find-3}

granted : (c : After-find) → c.find.result ≡ lowest_below (bad_grant c.args.board.now) c.args.board.now.domains
granted c =
    let b = c.args.board.now in
    lowest_found (bad_grant b) b.domains _
    (first_from_Range _ _ _ c.find.result (λ x. bad_grant b x ≡ true) (λ x. bad_grant b x ≡ false) c.find.ensures.ran (λ x q k. search rules) (λ x q k. search rules))

shared : (c : After-find-2) → c.find-2.result ≡ lowest_below (shares_with_another c.args.board.now) c.args.board.now.domains
shared c =
    let b = c.args.board.now in
    lowest_found (shares_with_another b) b.domains _
    (first_from_Range _ _ _ c.find-2.result (λ x. shares_with_another b x ≡ true) (λ x. shares_with_another b x ≡ false) c.find-2.ensures.ran (λ x q k. search rules) (λ x q k. search rules))

active : (c : After-find-3) → c.find-3.result ≡ lowest_below (bad_active c.args.board.now) c.args.board.now.domains
active c =
    let b = c.args.board.now in
    lowest_found (bad_active b) b.domains _
    (first_from_Range _ _ _ c.find-3.result (λ x. bad_active b x ≡ true) (λ x. bad_active b x ≡ false) c.find-3.ensures.ran (λ x q k. search rules) (λ x q k. search rules))

pub returns-in-Some : goal.returns-in-Some
returns-in-Some c =
    let k = goal.at.returns-in-Some c in
    sym (grant_refused c.args.board.now (sym (granted k.After-find) ∙ c.in-Some.is))

pub returns-in-Some-find : goal.returns-in-Some-find
returns-in-Some-find c =
    let k = goal.at.returns-in-Some-find c in
    sym (sharing_refused c.args.board.now (sym (granted k.After-find) ∙ c.in_default.is) (sym (shared k.After-find-2) ∙ c.in-Some-find.is))

pub returns-in-Some-find-2 : goal.returns-in-Some-find-2
returns-in-Some-find-2 c =
    let k = goal.at.returns-in-Some-find-2 c in
    sym (active_refused c.args.board.now (sym (granted k.After-find) ∙ c.in_default.is) (sym (shared k.After-find-2) ∙ c.in_default-find.is) (sym (active k.After-find-3) ∙ c.in-Some-find-2.is))

pub returns : goal.returns
returns c =
    let k = goal.at.returns c in
    sym (none_refused c.args.board.now (sym (granted k.After-find) ∙ c.in_default.is) (sym (shared k.After-find-2) ∙ c.in_default-find.is) (sym (active k.After-find-3) ∙ c.in_default-find-2.is))
