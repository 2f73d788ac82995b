-- `frames::mapping::check_page` meets its contract: 10 is one test more behind 2 to 8 and 26.
use Rattle.std.proofs.Common.{◌∙◌}
use borrow.Author.Tests.{lt-ltb, le-ltb}
use Rattle.refusal.proofs.Results.{told_of, handed_on, last_fails, last_passes}
use Rattle.board.specs.Tests.{call_tests, call_reply}
use Rattle.calls.specs.Calls.{page_test}
use Rattle.frames.specs.Steps.{page_reply}
use Rattle.frames.proofs.mapping.check_page.Goals as goal

pub returns-in_err-check_call : goal.returns-in_err-check_call
unfolding page_reply call_reply
returns-in_err-check_call c =
    let a = c.args in
    told_of _ _ c.from_residual.ensures.1 ∙ handed_on tt tt (call_tests a.board a.words a.domain) _ _ c.in_err-check_call.ensures

pub returns-then-page-gt-LAST_PAGE : goal.returns-then-page-gt-LAST_PAGE
unfolding page_reply call_reply
returns-then-page-gt-LAST_PAGE c =
    let a = c.args in
    last_fails tt tt (call_tests a.board a.words a.domain) (page_test a.page) c.in_ok-check_call.ensures (lt-ltb _ _ c.if-page-gt-LAST_PAGE.true)

pub returns : goal.returns
unfolding page_reply call_reply
returns c =
    let a = c.args in
    last_passes tt tt (call_tests a.board a.words a.domain) (page_test a.page) c.in_ok-check_call.ensures (le-ltb _ _ c.if-page-gt-LAST_PAGE.false)
