-- `frames::quotas::check_quota` meets its contract: 27 is one test more behind 2 to 8 and 26, by the words of the domain that are counted.
use Prim.Native.Nat.{ℕ, ◌+◌, ◌*◌, ◌%◌, ◌<◌}
use native.Mathlib.Omega.{arith}
use mathlib.Core.Bool.{Bool, true, false, ◌||◌}
use mathlib.Core.Path.{◌≡◌, refl, sym, ◌∙◌}
use lib.Dec.{ltb}
use lib.ListN.{length}
use borrow.Author.Tests.{lt-ltb, le-ltb}
use Rattle.limits.specs.Limits.{pages, last_first}
use Rattle.refusal.proofs.Results.{told_of, handed_on, last_fails, last_passes}
use Rattle.board.specs.Tests.{no_quota, call_tests, call_reply}
use Rattle.board.proofs.PassedTests.{CallAccepted, accepted}
use Rattle.calls.specs.Table.{state_of, frames_held}
use Rattle.calls.specs.Calls.{quota_test}
use Rattle.calls.proofs.PageWords.{word_fits}
use Rattle.choice.proofs.TableCounts.{held_counted}
use Rattle.pass.specs.Steps.{read, at_most, own_in}
use Rattle.frames.specs.Steps.{quota_reply}
use Rattle.frames.proofs.quotas.check_quota.Goals as goal
use Rattle.frames.proofs.quotas.check_quota.Goals.{In_ok-check_call, then-no_quota-via-then-no_quota, then-no_quota-via-else-no_quota+then-quota-from}

-- the frames held, as they are counted
held_is : (c : In_ok-check_call) (first count : ℕ) → let a = c.args in
    first ≡ (1 + pages * a.domain + 0) % 65536 → count ≡ own_in (at_most last_first first) (read a.table.now) → count ≡ frames_held (state_of a.board a.table.now) a.domain
held_is c first count is counted =
    let a = c.args in
    let fine : CallAccepted a.board (length a.table.now) a.domain = accepted _ _ _ (sym c.in_ok-check_call.ensures) in
    let low : a.domain < 8 = omega (arith, fine.bounds, fine.caller) in
    counted ∙ held_counted a.table.now a.domain (omega (arith, fine.bounds)) low a.board fine.bounds.long _ (is ∙ word_fits _ 0 low (omega arith))

-- 27: the number asked for is no quota, or below them
below_held : (q held count : ℕ) (none : Bool) → q < count → count ≡ held → (none || ltb q held) ≡ true
below_held q held count true l e = refl
below_held q held count false l e = lt-ltb q held (omega (arith, l, e))

pub returns-in_err-check_call : goal.returns-in_err-check_call
unfolding quota_reply call_reply
returns-in_err-check_call c =
    let a = c.args in
    told_of _ _ c.from_residual.ensures.1 ∙ handed_on tt tt (call_tests a.board (length a.table.now) a.domain) _ _ c.in_err-check_call.ensures

pub returns-then-no_quota : goal.returns-then-no_quota
unfolding quota_reply call_reply
returns-then-no_quota c =
    let a = c.args in
    let s = state_of a.board a.table.now in
    let fails : (no_quota a.quota || ltb a.quota (frames_held s a.domain)) ≡ true =
    elim c.then-no_quota.branch [
      | then-no_quota-via-then-no_quota w ↦ rw (sym c.no_quota.ensures ∙ w.if-no_quota.true) refl
      | then-no_quota-via-else-no_quota+then-quota-from w ↦
          below_held _ _ _ _ w.if-quota-from.true (held_is (goal.at.returns-then-no_quota c).In_ok-check_call _ _ w.word_for.ensures (w.from.ensures ∙ w.count_own.ensures))
    ] in
    last_fails tt tt (call_tests a.board (length a.table.now) a.domain) (quota_test s a.domain a.quota) c.in_ok-check_call.ensures fails

pub returns : goal.returns
unfolding quota_reply call_reply
returns c =
    let a = c.args in
    let s = state_of a.board a.table.now in
    let held = held_is (goal.at.returns c).In_ok-check_call _ _ c.word_for.ensures (c.from.ensures ∙ c.count_own.ensures) in
    let passes : (no_quota a.quota || ltb a.quota (frames_held s a.domain)) ≡ false =
    rw (sym c.no_quota.ensures ∙ c.if-no_quota.false, sym held) (le-ltb _ _ c.if-quota-from.false) in
    last_passes tt tt (call_tests a.board (length a.table.now) a.domain) (quota_test s a.domain a.quota) c.in_ok-check_call.ensures passes
