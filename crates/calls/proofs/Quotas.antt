-- What set quota does, of any board and table: where it answers, the quota asked for is one and no less than the frames held, and just that field of the
-- board changes, which colours tells from then on. And that a recolouring goes on whatever the quotas are.
use Prim.Native.Nat.{ℕ, ◌<◌, ◌≤◌}
use mathlib.Core.Bool.{true, false}
use mathlib.Core.List.{List, [], ◌∷◌, ◌++◌}
use mathlib.Core.Path.{◌≡◌, refl, ap, ◌∙◌}
use lib.Dec.{eqb}
use lib.ListN.{length}
use lib.Seq.{get_or-set_same, get_or-set_other}
use borrow.Author.Tests.{eqb-true, eqb-false, ltb-false}
use Rattle.limits.specs.Limits.{most_quota}
use Rattle.lists.proofs.CaseSplits.{cases, neither}
use Rattle.refusal.specs.Reply.{Answers, Test, unless, passes}
use Rattle.refusal.proofs.Replies.{passed_first, passed_answers}
use Rattle.refusal.proofs.Order.{passed_earlier, passed_later, passed_both}
use Rattle.board.specs.declared.Board.{Board}
use Rattle.board.specs.Tests.{active_set, quota, no_quota, bad_quotas, caller_test, domain_tests, board_tests, state_tests, call_tests, call_reply}
use Rattle.board.proofs.PassedTests.{CallAccepted, accepted, quotas_split, quotas_join, quota_range, quota_placed, state_split, state_join}
use Rattle.calls.specs.Table.{State, state_of, frames_with, frames_held, frees, strays}
use Rattle.calls.specs.FrameChoice.{choices}
use Rattle.calls.specs.Calls.{Active, Quota, Done, settle, called, colours, recolour, with_quotas, with_quota, quota_test, set_quota}
use Rattle.calls.proofs.CallTests.{settled_answers}

-- 2 to 7 do not look at quotas, and where 26 passes it passes with another quota that is one
pub board_still : (b : Board) (qs : List ℕ) (words : ℕ) → board_tests (with_quotas b qs) words ≡ board_tests b words
unfolding board_tests domain_tests
board_still b qs words = refl

pub quotas_still : (b : Board) (d q : ℕ) → bad_quotas b ≡ false → d < b.domains → no_quota q ≡ false → bad_quotas (with_quota b d q) ≡ false
quotas_still b d q good low fine =
    let each = quotas_split b good in
    quotas_join (with_quota b d q) (λ e l.
    cases (eqb e d)
    (λ o.
    ap (λ (x : ℕ). no_quota (quota (with_quota b d q) x)) (eqb-true e d o)
    ∙ ap no_quota (get_or-set_same b.quotas d q 0 (quota_placed b.quotas d (each d low)))
    ∙ fine)
    (λ o. ap no_quota (get_or-set_other b.quotas d e q 0 (eqb-false e d o)) ∙ each e l))

-- so that a call of the domain passes them again
still_passes : (b : Board) (words d q : ℕ) → passes (call_tests b words d) ≡ true → CallAccepted b words d → no_quota q ≡ false
    → passes (call_tests (with_quota b d q) words d) ≡ true
unfolding call_tests
still_passes b words d q ok a fine =
    let state = state_split b words (passed_earlier (state_tests b words) (caller_test b d ∷ []) ok) in
    passed_both (state_tests (with_quota b d q) words) (caller_test b d ∷ [])
    (state_join (with_quota b d q) words (rw (board_still b _ words) state.0) (quotas_still b d q a.quotas a.caller fine))
    (passed_later (state_tests b words) (caller_test b d ∷ []) ok)

-- a quota that is given: what it is, what it leaves, and what colours tells then
pub record Given (s : State) (d q n : ℕ) : Type 0 where
  pub asked : n ≡ q
  pub some : 0 < q
  pub most : q ≤ most_quota
  pub enough : frames_held s d ≤ q
  pub next : (set_quota s d q).next ≡ state_of (with_quota s.board d q) s.table
  pub own : quota (with_quota s.board d q) d ≡ q
  pub others : (e : ℕ) → (e ≡ d → ⊥) → quota (with_quota s.board d q) e ≡ quota s.board e
  pub told : (colours (state_of (with_quota s.board d q) s.table) d).reply ≡ Answers (Active (active_set s.board d) q)

pub given : (s : State) (d q n : ℕ) → (set_quota s d q).reply ≡ Answers (Quota n) → Given s d q n
unfolding set_quota colours called settle call_reply passes
given s d q n e =
    let words : ℕ = length s.table in
    let first : List Test = call_tests s.board words d in
    let later : List Test = call_tests (with_quota s.board d q) words d in
    let last : List Test = quota_test s d q ∷ [] in
    let r = settled_answers s _ (first ++ last) (Quota n) e in
    let ok = passed_earlier first last r.0 in
    let fine = accepted s.board words d (passed_answers first (tt {0}) ok) in
    let judged = neither (no_quota q) _ (passed_first (quota_test s d q) [] (passed_later first last r.0)).0 in
    let range = quota_range q judged.0 in
    let own = get_or-set_same s.board.quotas d q 0 (quota_placed s.board.quotas d (quotas_split s.board fine.quotas d fine.caller)) in
    record {
      asked = cc r.1;
      some = range.0;
      most = range.1;
      enough = ltb-false _ _ judged.1;
      next = ap (λ o. (settle s o).next) (passed_answers (first ++ last) _ r.0);
      own = own;
      others = λ e other. get_or-set_other s.board.quotas d e q 0 other;
      told =
          ap (λ o. (settle (state_of (with_quota s.board d q) s.table) o).reply)
          (passed_answers (later ++ []) _ (passed_both later [] (still_passes s.board words d q ok fine judged.0) refl))
          ∙ ap (λ (x : ℕ). Answers (Active (active_set s.board d) x)) own;
    }

-- Two calls with the same tests, answers and moves reply the same
module _ (s r : State) (o p : Done) (answer : o.answer ≡ p.answer) (moves : o.moves ≡ p.moves) where
  replies_alike : (ts : List Test) → ((settle s (unless ts o)).reply ≡ (settle r (unless ts p)).reply) × ((settle s (unless ts o)).moves ≡ (settle r (unless ts p)).moves)
  unfolding unless settle
  replies_alike [] = (ap Answers answer, moves)
  replies_alike (t ∷ ts) = cases t.fails (λ e. rw e (refl, refl)) (λ e. rw e (replies_alike ts))

-- a recolouring on a board with other quotas, of which 26 says the same
pub recolour_goes_on : (s : State) (qs : List ℕ) (d c : ℕ) (lent : List ℕ) → bad_quotas (with_quotas s.board qs) ≡ bad_quotas s.board
    → let r = recolour (state_of (with_quotas s.board qs) s.table) d c lent in
    (r.reply ≡ (recolour s d c lent).reply) × (r.moves ≡ (recolour s d c lent).moves)
unfolding recolour called call_tests state_tests board_tests domain_tests strays choices frees frames_with
recolour_goes_on s qs d c lent same = rw same (replies_alike _ _ _ _ refl refl _)
