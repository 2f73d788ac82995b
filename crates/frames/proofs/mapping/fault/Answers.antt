-- `frames::mapping::fault` meets its contract: the outcomes of the one pass, by the frame that is known in the end and the one that the lanes give.
use Prim.Native.Nat.{ℕ, ◌-◌, ◌<◌, ◌≤◌}
use native.Mathlib.Omega.{arith}
use mathlib.Core.Bool.{true}
use mathlib.Core.List.{List}
use mathlib.Core.Path.{◌≡◌, sym, ap, ap₂, ◌∙◌}
use lib.Dec.{leb}
use lib.ListN.{length, set}
use borrow.Author.Tests.{le-leb, lt-leb}
use Rattle.limits.specs.Limits.{most_frames, last_page}
use Rattle.refusal.specs.Reply.{Answers, passes}
use Rattle.refusal.proofs.Results.{told_with}
use Rattle.colours.specs.Cache.{is_colour_count}
use Rattle.board.specs.Tests.{active_set}
use Rattle.board.proofs.PassedTests.{CallAccepted}
use Rattle.tally.specs.declared.Tally.{Tally}
use Rattle.tally.specs.Lanes.{sum_lanes}
use Rattle.calls.specs.Table.{word_of}
use Rattle.calls.specs.Calls.{Old, New, fault, page_tests}
use Rattle.calls.specs.OnePass.{frame_by, after, frame_for, at_quota_by}
use Rattle.calls.proofs.CallTests.{told_by}
use Rattle.calls.proofs.PageWords.{word_fits}
use Rattle.calls.proofs.OnePass.{end_lanes, end_below, old_frame, full_quota, new_frame, no_frame}
use Rattle.choice.proofs.Counts.{sum_of_all}
use Rattle.choice.proofs.TableCounts.{kept_is, chosen_on}
use Rattle.table_words.proofs.LowestFound.{below, some_below, none_below}
use Rattle.frames.specs.Steps.{page_reply}
use Rattle.frames.proofs.PageCallOutcome.{page_refused, page_passes, page_accepted}
use Rattle.frames.proofs.mapping.fault.Goals as goal
use Rattle.frames.proofs.mapping.fault.Goals.{After-choose, After-go_over-tally, After-sum_all, In-Some}

passes_10 : (c : After-go_over-tally) → let a = c.args in page_reply a.board (length a.table.now) a.domain a.page ≡ Answers tt
passes_10 c = sym c.in_ok-check_page.ensures

accepted : (c : After-go_over-tally) → let a = c.args in CallAccepted a.board (length a.table.now) a.domain × (a.page ≤ last_page)
accepted c = page_accepted _ _ _ _ (passes_10 c)

fine : (c : After-go_over-tally) → let a = c.args in passes (page_tests a.board (length a.table.now) a.domain a.page) ≡ true
fine c = page_passes _ _ _ _ (passes_10 c)

most : (c : After-go_over-tally) → length c.args.table.now ≤ most_frames
most c = omega (arith, (accepted c).0.bounds)

low : (c : After-go_over-tally) → c.args.domain < 8
low c = omega (arith, (accepted c).0.bounds, (accepted c).0.caller)

-- what is kept in the end
abbrev end : After-go_over-tally → Tally
end c = let a = c.args in after a.domain a.page a.table.now

word_is : (c : After-go_over-tally) → c.word_for-word.result ≡ word_of c.args.domain c.args.page
word_is c = c.word_for-word.ensures ∙ word_fits _ _ (low c) (accepted c).1

end_is : (c : After-go_over-tally) → c.go_over-tally.result ≡ end c
end_is c =
    let a = c.args in
    c.go_over-tally.ensures
    ∙ kept_is a.table.now a.domain (most c) (low c) a.page _ _ (word_is c)
    (c.word_for-first.ensures ∙ word_fits _ 0 (low c) (omega arith))

mapped_is : (c : After-go_over-tally) → c.go_over-tally.result.mapped ≡ (end c).mapped
mapped_is c = ap (λ (k : Tally). k.mapped) (end_is c)

mapped_below : (c : After-go_over-tally) → c.go_over-tally.result.mapped ≤ length c.args.table.now
mapped_below c = let a = c.args in omega (arith, mapped_is c, end_below a.domain a.page a.table.now)

-- whether the domain is at its quota
at_quota :
    (c : After-sum_all) → let a = c.args in
    is_colour_count a.board.colours ≡ true → c.go_over-tally.result ≡ after a.domain a.page a.table.now
    → leb c.quota.result c.sum_all.result ≡ at_quota_by a.board a.domain (after a.domain a.page a.table.now)
unfolding at_quota_by
at_quota c coloured e =
    ap₂ leb c.quota.ensures (c.sum_all.ensures ∙ sum_of_all _ _ coloured ∙ ap (λ (k : Tally). sum_lanes (λ (i : ℕ). true) k.held) e)

-- the frame to take
frame_is :
    (c : After-choose) → let a = c.args in let end = after a.domain a.page a.table.now in
    page_reply a.board (length a.table.now) a.domain a.page ≡ Answers tt → c.go_over-tally.result ≡ end → end.mapped ≡ 0
    → c.choose.result ≡ below (frame_for a.board a.domain end) a.board.frames
unfolding frame_for
frame_is c ok e not_mapped =
    let a = c.args in
    let t : List ℕ = a.table.now in
    let n : ℕ = a.board.colours in
    let k : Tally = c.go_over-tally.result in
    let end : Tally = after a.domain a.page t in
    let set : ℕ = active_set a.board a.domain in
    let fine = page_accepted _ _ _ _ ok in
    let lanes = e ∙ end_lanes a.board a.domain a.page t (page_passes _ _ _ _ ok) (omega (arith, not_mapped)) in
    chosen_on t a.domain (omega (arith, fine.0.bounds)) (omega (arith, fine.0.bounds, fine.0.caller)) n c.active_set-set.result fine.0.passed.count k.held k.free
    (ap (λ (q : Tally). q.held) lanes) (ap (λ (q : Tally). q.free) lanes) _ c.choose.ensures
    ∙ ap (λ (x : ℕ). below (frame_by n (length t) x k.held k.free) (length t)) c.active_set-set.ensures
    ∙ ap (λ (q : Tally). below (frame_by n (length t) set q.held q.free) (length t)) e
    ∙ ap (λ (m : ℕ). below (frame_by n m set end.held end.free) m) fine.0.bounds.long

pub returns-in_err-check_page : goal.returns-in_err-check_page
unfolding fault
returns-in_err-check_page c =
    let a = c.args in
    let m = told_by _ _ (page_refused _ a.domain _ _ a.page _ _ (sym c.in_err-check_page.ensures)) in
    record { result_value = told_with _ _ _ c.from_residual.ensures.1 ∙ m.0; table_after = m.1 }

pub overflow_cast-result : goal.overflow_cast-result
overflow_cast-result c = let b = (goal.at.overflow_cast-result c).After-go_over-tally in omega (arith, mapped_below b, most b)

pub returns-then-tally-gt0 : goal.returns-then-tally-gt0
returns-then-tally-gt0 c =
    let b = (goal.at.returns-then-tally-gt0 c).After-go_over-tally in
    let a = c.args in
    let m = told_by _ _ (old_frame a.board a.domain a.page a.table.now (fine b) (omega (arith, mapped_is b))) in
    record { result_value = ap (λ (f : ℕ). Answers (Old (f - 1))) (mapped_is b) ∙ m.0; table_after = m.1 }

pub returns-then-quota-sum_all : goal.returns-then-quota-sum_all
returns-then-quota-sum_all c =
    let at = goal.at.returns-then-quota-sum_all c in
    let b = at.After-go_over-tally in
    let a = c.args in
    let full = sym (at_quota at.After-sum_all (accepted b).0.passed.count (end_is b)) ∙ le-leb _ _ c.if-quota-sum_all.true in
    let m = told_by _ _ (full_quota a.board a.domain a.page a.table.now (fine b) (omega (arith, mapped_is b)) full) in
    record { result_value = m.0; table_after = m.1 }

pub returns-in_default : goal.returns-in_default
returns-in_default c =
    let at = goal.at.returns-in_default c in
    let b = at.After-go_over-tally in
    let a = c.args in
    let under = sym (at_quota at.After-sum_all (accepted b).0.passed.count (end_is b)) ∙ lt-leb _ _ c.if-quota-sum_all.false in
    let none = none_below _ _ (sym c.in_default.is ∙ frame_is at.After-choose (passes_10 b) (end_is b) (omega (arith, mapped_is b))) in
    let m = told_by _ _ (no_frame a.board a.domain a.page a.table.now (fine b) (omega (arith, mapped_is b)) under none) in
    record { result_value = m.0; table_after = m.1 }

-- the frame that was chosen
chosen :
    (c : In-Some) → let a = c.args in
    page_reply a.board (length a.table.now) a.domain a.page ≡ Answers tt → c.go_over-tally.result ≡ after a.domain a.page a.table.now → (after a.domain a.page a.table.now).mapped ≡ 0
    → (c.in-Some.frame ≡ frame_for a.board a.domain (after a.domain a.page a.table.now)) × (c.in-Some.frame < a.board.frames)
chosen c ok e not_mapped = some_below _ _ _ (sym c.in-Some.is ∙ frame_is (goal.at.In-Some c).After-choose ok e not_mapped)

pub bounds-table-frame : goal.bounds-table-frame
bounds-table-frame c =
    let at = goal.at.bounds-table-frame c in
    let b = at.After-go_over-tally in
    omega (arith, (chosen at.In-Some (passes_10 b) (end_is b) (omega (arith, mapped_is b))).1, (accepted b).0.bounds.long)

pub offset_bounds-table-frame : goal.offset_bounds-table-frame
offset_bounds-table-frame c =
    let at = goal.at.offset_bounds-table-frame c in
    let b = at.After-go_over-tally in
    omega (arith, (chosen at.In-Some (passes_10 b) (end_is b) (omega (arith, mapped_is b))).1, (accepted b).0.bounds.long, most b)

pub overflow_cast-result-2 : goal.overflow_cast-result-2
overflow_cast-result-2 c =
    let at = goal.at.overflow_cast-result-2 c in
    let b = at.After-go_over-tally in
    omega (arith, (chosen at.In-Some (passes_10 b) (end_is b) (omega (arith, mapped_is b))).1, (accepted b).0.bounds.long, most b)

pub returns : goal.returns
returns c =
    let at = goal.at.returns c in
    let b = at.After-go_over-tally in
    let a = c.args in
    let under = sym (at_quota at.After-sum_all (accepted b).0.passed.count (end_is b)) ∙ lt-leb _ _ c.if-quota-sum_all.false in
    let frame = chosen at.In-Some (passes_10 b) (end_is b) (omega (arith, mapped_is b)) in
    let m = told_by _ _ (new_frame a.board a.domain a.page a.table.now (fine b) (omega (arith, mapped_is b)) under (omega (arith, frame.0, frame.1))) in
    record {
      result_value = ap (λ (f : ℕ). Answers (New f)) frame.0 ∙ m.0;
      table_after = ap₂ (λ (f w : ℕ). set a.table.now f w) frame.0 (word_is b) ∙ m.1;
    }
