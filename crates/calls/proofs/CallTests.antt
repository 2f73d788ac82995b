-- What the reply of a call says of its tests: where it answers they all pass. In a call that names a page 10 comes right
-- after 2 to 8 and 26, and where these pass the call's own tests settle it; and what these leave of the board, the domain and the page.
use Prim.Native.Nat.{ℕ, ◌≤◌}
use mathlib.Core.Bool.{true}
use mathlib.Core.List.{List, [], ◌∷◌, ◌++◌, append_assoc}
use mathlib.Core.Path.{◌≡◌, refl, sym, ap, ◌∙◌}
use lib.ListN.{length}
use borrow.Author.Tests.{ltb-false}
use Rattle.limits.specs.Limits.{last_page}
use Rattle.lists.proofs.CaseSplits.{cases}
use Rattle.refusal.specs.Reply.{Answers, Refuses, Test, unless, passes}
use Rattle.refusal.proofs.Replies.{passed_first, passed_answers}
use Rattle.refusal.proofs.Order.{unless_refused, unless_passed, passed_earlier, passed_later}
use Rattle.board.specs.declared.Board.{Board}
use Rattle.board.specs.Tests.{call_tests, call_reply}
use Rattle.board.proofs.PassedTests.{CallAccepted, accepted}
use Rattle.calls.specs.Table.{State}
use Rattle.calls.specs.Calls.{Answer, Done, Outcome, settle, called, page_test, page_tests}

-- a call that is refused, and one that answers and changes nothing
abbrev pub refused : State → ℕ → ℕ → Outcome
refused s n r = record { reply = Refuses n r; moves = []; next = s }

abbrev pub answered : State → Answer → Outcome
answered s a = record { reply = Answers a; moves = []; next = s }

-- what the outcome of a call on the table says: its reply, and the table that it leaves
pub told_by : (o p : Outcome) → o ≡ p → (p.reply ≡ o.reply) × (p.next.table ≡ o.next.table)
told_by o p e = (sym (ap (λ (q : Outcome). q.reply) e), sym (ap (λ (q : Outcome). q.next.table) e))

module _ (s : State) (d : ℕ) (own : List Test) (done : Done) where
  abbrev first : List Test
  first = call_tests s.board (length s.table) d

  pub call_refused : (n r : ℕ) → call_reply s.board (length s.table) d ≡ Refuses n r → called s d own done ≡ refused s n r
  unfolding call_reply called settle
  call_refused n r e = ap (settle s) (unless_refused (tt {0}) done first own n r e)

  pub call_passed : call_reply s.board (length s.table) d ≡ Answers tt → called s d own done ≡ settle s (unless own done)
  unfolding call_reply called
  call_passed e = ap (settle s) (unless_passed (tt {0}) done first own e)

module _ (s : State) (done : Done) where
  pub settled_answers : (ts : List Test) (a : Answer) → (settle s (unless ts done)).reply ≡ Answers a → (passes ts ≡ true) × (done.answer ≡ a)
  unfolding unless passes settle
  settled_answers [] a e = (refl, cc)
  settled_answers (t ∷ ts) a e =
      cases t.fails (λ f. (cc (rw f at e), cc (rw f at e))) (λ f. rw f (settled_answers ts a (rw f at e)))

module _ (s : State) (d p : ℕ) (own : List Test) (done : Done) where
  abbrev tests : List Test
  tests = page_tests s.board (length s.table) d p

  pub ten_first : called s d (page_test p ∷ own) done ≡ settle s (unless (tests ++ own) done)
  unfolding called
  ten_first = rw (append_assoc (call_tests s.board (length s.table) d) (page_test p ∷ []) own)

  pub ten_passed : passes tests ≡ true → called s d (page_test p ∷ own) done ≡ settle s (unless own done)
  ten_passed e = ten_first ∙ ap (settle s) (unless_passed (tt {0}) done tests own (passed_answers tests (tt {0}) e))

-- what 2 to 8, 26 and 10 give
pub ten_accepted : (b : Board) (words d p : ℕ) → passes (page_tests b words d p) ≡ true → CallAccepted b words d × (p ≤ last_page)
unfolding call_reply
ten_accepted b words d p e =
    let ten = passed_later (call_tests b words d) (page_test p ∷ []) e in
    let eight = passed_earlier (call_tests b words d) (page_test p ∷ []) e in
    (accepted b words d (passed_answers (call_tests b words d) (tt {0}) eight), ltb-false last_page p (passed_first (page_test p) [] ten).0)
