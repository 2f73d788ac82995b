-- `taking_back::judge_list` meets its contract: 31 by the list, and 32 by the frames outside the set and those that the list brings back.
use Prim.Native.Nat.{ℕ}
use native.Mathlib.Omega.{arith}
use mathlib.Core.Bool.{false}
use mathlib.Core.List.{List, []}
use mathlib.Core.Path.{◌≡◌, sym, ap, ◌∙◌}
use lib.ListN.{length}
use Rattle.table_words.specs.Sets.{masked_in}
use Rattle.calls.proofs.PageWords.{word_fits}
use Rattle.lists.specs.Range.{upto, keep}
use Rattle.refusal.specs.Reply.{Answers}
use Rattle.refusal.proofs.Replies.{passed_first, answers_passed}
use Rattle.refusal.proofs.Results.{told_with, handed_on}
use Rattle.tally.specs.Lanes.{sum_lanes}
use Rattle.calls.specs.Table.{is_stray}
use Rattle.calls.specs.TakeBack.{move_list}
use Rattle.choice.specs.LaneSums.{side_of}
use Rattle.taking_back.specs.Triples.{outsides, wrong_triples, triples_reply, taken_back}
use Rattle.choice.proofs.TableCounts.{lanes_are, strays_counted}
use Rattle.taking_back.proofs.TakenBackReply.{thirty_two, taken, count_most}
use Rattle.taking_back.proofs.judge_list.Goals as goal
use Rattle.taking_back.proofs.judge_list.Goals.{After-sum_side}

-- what an answer says of the list
told_right : (t : List ℕ) (n d c : ℕ) (list : List ℕ) (k : ℕ) → Answers k ≡ triples_reply t n d c list → (wrong_triples t n d c list ≡ false) × (outsides n c (move_list list) ≡ k)
unfolding triples_reply
told_right t n d c list k e =
    let r = answers_passed _ _ _ (sym e) in
    ((passed_first _ [] r.0).0, r.1)

right : (c : After-sum_side) → let s = c.args.former in
    (wrong_triples c.args.table.now s.colours s.domain s.set c.args.moves.now ≡ false)
    × (outsides s.colours s.set (move_list c.args.moves.now) ≡ c.in_ok-outside.outside)
right c = let s = c.args.former in told_right c.args.table.now s.colours s.domain s.set c.args.moves.now _ c.in_ok-outside.ensures

-- the frames outside the set, counted
counted : (c : After-sum_side) → let s = c.args.former in
    c.sum_side.result ≡ length (keep (is_stray c.args.table.now s.colours s.domain s.set) (upto (length c.args.table.now)))
counted c =
    let r = c.requires in
    let t = c.args.table.now in
    let s = c.args.former in
    let lanes = c.held_lanes-held.ensures ∙ lanes_are t s.domain r s.low _ (c.word_for.ensures ∙ word_fits _ 0 s.low (omega arith)) in
    c.sum_side.ensures
    ∙ ap (sum_lanes (λ (i : ℕ). side_of false (masked_in s.colours s.set i))) lanes
    ∙ strays_counted t s.domain r s.low s.colours s.set s.counted

pub returns-in_err-outside : goal.returns-in_err-outside
unfolding triples_reply taken_back
returns-in_err-outside c = told_with _ _ _ c.from_residual.ensures.1 ∙ handed_on _ _ _ _ _ c.in_err-outside.ensures

pub returns-then-sum_side-outside : goal.returns-then-sum_side-outside
returns-then-sum_side-outside c =
    let w = (goal.at.returns-then-sum_side-outside c).After-sum_side in
    let r = right w in
    sym (thirty_two _ _ _ _ _ r.0 (λ e. c.if-sum_side-outside.true (counted w ∙ e ∙ r.1)))

pub overflow_cast-result : goal.overflow_cast-result
overflow_cast-result c =
    let w = (goal.at.overflow_cast-result c).After-sum_side in
    omega (arith, count_most _ _ _ _ _ (right w).0, c.requires)

pub returns : goal.returns
returns c =
    let w = (goal.at.returns c).After-sum_side in
    let r = right w in
    sym (taken _ _ _ _ _ r.0 (sym (counted w) ∙ c.if-sum_side-outside.false ∙ sym r.1))
