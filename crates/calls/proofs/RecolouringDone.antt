-- A recolouring that is done: what its tests leave, and its moves, its table and its board by those that were chosen. Its board, with another set that 9
-- does not refuse, is still accepted.
use Prim.Native.Nat.{ℕ, ◌<◌, ◌≤◌}
use mathlib.Core.Bool.{true, false}
use mathlib.Core.List.{List, [], ◌∷◌, ◌++◌}
use mathlib.Core.Path.{◌≡◌, ap}
use lib.Dec.{eqb}
use lib.ListN.{length, get_or-eq_default}
use lib.Seq.{get_or-set_same, get_or-set_other}
use borrow.Author.Tests.{eqb-true, eqb-false, ltb-false, lt-ltb}
use Rattle.lists.proofs.CaseSplits.{cases, below_or_not, neither}
use Rattle.refusal.specs.Reply.{Answers, Test, passes}
use Rattle.refusal.proofs.Replies.{passed_first, passed_answers}
use Rattle.refusal.proofs.Order.{passed_earlier, passed_later, passed_both}
use Rattle.colours.proofs.Ranges.{count_range}
use Rattle.board.specs.declared.Board.{Board}
use Rattle.board.specs.Tests.{grant, active_set, empty_or_outside, bad_quotas, caller_test, state_tests, call_tests, call_reply}
use Rattle.board.proofs.PassedTests.{Passed, join, state_join, CallAccepted, accepted}
use Rattle.calls.specs.Table.{State, strays}
use Rattle.calls.specs.FrameChoice.{choices}
use Rattle.calls.specs.Calls.{Moved, settle, called, pairs, in_order, move_all, with_active, recolour_tests, recolour}
use Rattle.calls.proofs.CallTests.{settled_answers}

pub record Recoloured (s : State) (d c : ℕ) (lent : List ℕ) (n : ℕ) : Type 0 where
  pub fine : CallAccepted s.board (length s.table) d
  pub coloured : 0 < s.board.colours
  pub room : length (strays s d c) ≤ length (choices s d c)
  pub count : length (strays s d c) ≡ n
  pub moves : (recolour s d c lent).moves ≡ in_order (pairs s d c)
  pub table : (recolour s d c lent).next.table ≡ move_all s.table (pairs s d c)
  pub nine : empty_or_outside (grant s.board d) c ≡ false
  pub board : (recolour s d c lent).next.board ≡ with_active s.board d c

pub recoloured : (s : State) (d c : ℕ) (lent : List ℕ) (n : ℕ) → (recolour s d c lent).reply ≡ Answers (Moved n) → Recoloured s d c lent n
unfolding recolour called settle call_reply
recoloured s d c lent n e =
    let eight : List Test = call_tests s.board (length s.table) d in
    let own : List Test = recolour_tests s d c (length lent) in
    let r = settled_answers s _ (eight ++ own) (Moved n) e in
    let own_passed = passed_first _ _ (passed_later eight own r.0) in
    let fine = accepted s.board (length s.table) d (passed_answers eight (tt {0}) (passed_earlier eight own r.0)) in
    record {
      fine = fine;
      coloured = (count_range s.board.colours fine.passed.count).0;
      room = ltb-false _ _ (passed_first _ _ own_passed.1).0;
      count = cc r.1;
      moves = ap (λ o. (settle s o).moves) (passed_answers (eight ++ own) _ r.0);
      table = ap (λ o. (settle s o).next.table) (passed_answers (eight ++ own) _ r.0);
      nine = own_passed.0;
      board = ap (λ o. (settle s o).next.board) (passed_answers (eight ++ own) _ r.0);
    }

module _ (b : Board) (words d : ℕ) (p : Passed b words) (below : d < b.domains) where
  -- the active set is not 0, which it would be past the end of the list
  pub active_placed : d < length b.active
  active_placed =
      below_or_not d (length b.active) (λ l. l)
      (λ l. absurd (eqb-false (active_set b d) 0 (neither _ _ (p.actives d below)).0 (get_or-eq_default b.active 0 l)))

  -- 2 to 7 pass with another set
  pub active_still : (c : ℕ) → empty_or_outside (grant b d) c ≡ false → Passed (with_active b d c) words
  active_still c nine =
      record {
        count = p.count;
        frames = p.frames;
        domains = p.domains;
        grants = p.grants;
        shared = p.shared;
        actives = λ e l.
            cases (eqb e d)
            (λ q. rw (eqb-true e d q, get_or-set_same b.active d c 0 active_placed) nine)
            (λ q. rw (get_or-set_other b.active d e c 0 (eqb-false e d q)) (p.actives e l));
      }

-- and so do 26 and 8
pub call_still : (b : Board) (words d c : ℕ) → CallAccepted b words d → empty_or_outside (grant b d) c ≡ false → passes (call_tests (with_active b d c) words d) ≡ true
unfolding call_tests bad_quotas passes
call_still b words d c a nine =
    passed_both (state_tests (with_active b d c) words) (caller_test b d ∷ [])
    (state_join (with_active b d c) words (join (with_active b d c) words (active_still b words d a.passed a.caller c nine)) a.quotas)
    (rw (lt-ltb d b.domains a.caller))
