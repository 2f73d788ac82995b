-- `moves::recolouring::recolour_table` meets its contract: what a recolouring with the reply that was judged does (`RecolouringReply`).
use Prim.Native.Nat.{ℕ, ◌<◌, ◌≤◌}
use native.Mathlib.Omega.{arith}
use mathlib.Core.Bool.{Bool, true, false}
use mathlib.Core.List.{List}
use mathlib.Core.Path.{◌≡◌, refl, sym, ap, ap₂, ◌∙◌}
use lib.ListN.{length}
use Rattle.lists.proofs.AgreeingTests.{kept_le}
use Rattle.limits.specs.Limits.{most_frames}
use Rattle.refusal.specs.Reply.{Reply, Answers}
use Rattle.refusal.proofs.Results.{told_with}
use Rattle.board.proofs.PassedTests.{CallAccepted}
use Rattle.tally.specs.Lanes.{sum_lanes}
use Rattle.pass.specs.Steps.{survey_of}
use Rattle.pass.specs.declared.lanes.Surveyed.{Surveyed}
use Rattle.table_words.specs.Sets.{masked_in}
use Rattle.calls.proofs.PageWords.{word_fits}
use Rattle.choice.specs.LaneSums.{side_of}
use Rattle.calls.specs.Table.{state_of, word_of, is_stray}
use Rattle.calls.specs.Calls.{Answer}
use Rattle.moves.specs.Steps.{set_reply, weighed, recolour_reply}
use Rattle.choice.proofs.TableCounts.{surveyed_is, strays_counted, frees_counted}
use Rattle.moves.proofs.RecolouringReply.{held, free, reply_refused, set_accepted, reply_weighed, refusal_meets, movable, recolour_meets}
use Rattle.moves.proofs.recolouring.recolour_table.Goals as goal
use Rattle.moves.proofs.recolouring.recolour_table.Goals.{After-survey-lanes}

passes_9 : (c : After-survey-lanes) → let a = c.args in set_reply a.board (length a.table.now) a.domain a.set ≡ Answers tt
passes_9 c = sym c.in_ok-check_set.ensures

fine : (c : After-survey-lanes) → let a = c.args in CallAccepted a.board (length a.table.now) a.domain
fine c = let a = c.args in set_accepted a.board a.table.now a.domain a.set (passes_9 c)

most : (c : After-survey-lanes) → length c.args.table.now ≤ most_frames
most c = omega (arith, (fine c).bounds)

low : (c : After-survey-lanes) → c.args.domain < 8
low c = omega (arith, (fine c).bounds, (fine c).caller)

-- what the survey gives
lanes_are : (c : After-survey-lanes) → let a = c.args in c.survey-lanes.result ≡ survey_of (word_of a.domain 0) a.table.now
lanes_are c =
    let a = c.args in
    c.survey-lanes.ensures ∙ surveyed_is a.table.now a.domain (most c) (low c) _ (c.word_for.ensures ∙ word_fits _ 0 (low c) (omega arith))

abbrev sum_of : After-survey-lanes → Bool → List ℕ → ℕ
sum_of c side lanes = let a = c.args in sum_lanes (λ (i : ℕ). side_of side (masked_in a.board.colours a.set i)) lanes

held_is : (c : After-survey-lanes) → let a = c.args in sum_of c false c.survey-lanes.result.held ≡ length (held a.board a.table.now a.domain a.set)
unfolding survey_of
held_is c =
    let a = c.args in
    ap (λ (q : Surveyed). sum_of c false q.held) (lanes_are c)
    ∙ strays_counted a.table.now a.domain (most c) (low c) a.board.colours a.set (fine c).passed.count

free_is : (c : After-survey-lanes) → let a = c.args in sum_of c true c.survey-lanes.result.free ≡ length (free a.board a.table.now a.domain a.set)
unfolding survey_of
free_is c =
    let a = c.args in
    ap (λ (q : Surveyed). sum_of c true q.free) (lanes_are c)
    ∙ frees_counted a.table.now a.domain (most c) (low c) a.board.colours a.set (fine c).passed.count

-- the answer is the call's
judged : (c : After-survey-lanes) (answer : Reply Answer)
    → let a = c.args in let lanes = c.survey-lanes.result in
    answer ≡ weighed (sum_of c false lanes.held) (sum_of c true lanes.free) (length a.moves.now)
    → answer ≡ recolour_reply (state_of a.board a.table.now) a.domain a.set (length a.moves.now)
judged c answer is =
    let a = c.args in
    is
    ∙ ap₂ (λ (k g : ℕ). weighed k g (length a.moves.now)) (held_is c) (free_is c)
    ∙ sym (reply_weighed a.board a.table.now a.domain a.set (passes_9 c) (length a.moves.now))

pub returns-in_err-check_set : goal.returns-in_err-check_set
returns-in_err-check_set c =
    let a = c.args in
    let meets =
    refusal_meets a.board a.table.now a.domain a.set a.moves.now _ _
    (reply_refused a.board a.table.now a.domain a.set (length a.moves.now) _ _ (sym c.in_err-check_set.ensures)) in
    record { answer_value = told_with _ _ _ c.from_residual.ensures.1 ∙ meets.0; table_after = meets.1.1.0; moves_after = meets.1.1.1 }

pub weigh-requires : goal.weigh-requires
weigh-requires c =
    let n = (goal.at.weigh-requires c).After-survey-lanes in
    let a = c.args in
    omega (arith, held_is n, kept_le (is_stray a.table.now a.board.colours a.domain a.set) (length a.table.now) 0, most n)

pub returns-in_err-count : goal.returns-in_err-count
returns-in_err-count c =
    let n = (goal.at.returns-in_err-count c).After-survey-lanes in
    let meets = refusal_meets _ _ _ _ _ _ _ (sym (judged n _ c.in_err-count.ensures)) in
    record { answer_value = told_with _ _ _ c.from_residual-in_err-count.ensures.1 ∙ meets.0; table_after = meets.1.1.0; moves_after = meets.1.1.1 }

pub invariant_of-new_set : goal.invariant_of-new_set
invariant_of-new_set c =
    let n = (goal.at.invariant_of-new_set c).After-survey-lanes in
    record { counted = (fine n).passed.count; low = low n }

pub move_all-requires : goal.move_all-requires
unfolding survey_of
move_all-requires c =
    let n = (goal.at.move_all-requires c).After-survey-lanes in
    (movable _ _ _ _ _ _ (sym (judged n _ c.in_ok-count.ensures)), ap (λ (q : Surveyed). q.held) (lanes_are n))

pub returns : goal.returns
returns c =
    let n = (goal.at.returns c).After-survey-lanes in
    let meets =
    recolour_meets _ _ _ _ _ _ (sym (judged n _ c.in_ok-count.ensures))
    _ _ _ refl (c.move_all.ensures.table_after, c.move_all.ensures.moves_after) in
    record { answer_value = meets.0; table_after = meets.1.1.0; moves_after = meets.1.1.1 }
