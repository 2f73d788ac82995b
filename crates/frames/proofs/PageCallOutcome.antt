-- From the reply of 2 to 8, 26 and 10 to the outcome of a call that names a page: a refusal settles it, and otherwise the call's own tests do.
use Prim.Native.Nat.{ℕ, ◌≤◌}
use mathlib.Core.Bool.{true}
use mathlib.Core.List.{List, [], ◌∷◌, ◌++◌}
use mathlib.Core.Path.{◌≡◌, ap, ◌∙◌}
use lib.ListN.{length}
use Rattle.limits.specs.Limits.{last_page}
use Rattle.refusal.specs.Reply.{Answers, Refuses, Test, unless, passes}
use Rattle.refusal.proofs.Replies.{answers_passed}
use Rattle.refusal.proofs.Order.{unless_refused}
use Rattle.board.specs.declared.Board.{Board}
use Rattle.board.specs.Tests.{call_tests}
use Rattle.board.proofs.PassedTests.{CallAccepted}
use Rattle.calls.specs.Table.{State}
use Rattle.calls.specs.Calls.{Done, settle, called, page_test, page_tests}
use Rattle.calls.proofs.CallTests.{refused, ten_first, ten_passed, ten_accepted}
use Rattle.frames.specs.Steps.{page_reply}

-- 2 to 8, 26 and 10 pass where they do not refuse
pub page_passes : (b : Board) (words d p : ℕ) → page_reply b words d p ≡ Answers tt → passes (page_tests b words d p) ≡ true
unfolding page_reply
page_passes b words d p e = (answers_passed (page_tests b words d p) (tt {0}) tt e).0

module _ (s : State) (d : ℕ) (own : List Test) (done : Done) where
  abbrev first : List Test
  first = call_tests s.board (length s.table) d

  -- calls that name a page
  module _ (p : ℕ) where
    pub page_refused :
        (n r : ℕ) → page_reply s.board (length s.table) d p ≡ Refuses n r → called s d (page_test p ∷ own) done ≡ refused s n r
    unfolding page_reply settle
    page_refused n r e = ten_first s d p own done ∙ ap (settle s) (unless_refused (tt {0}) done (first ++ (page_test p ∷ [])) own n r e)

    pub page_passed :
        page_reply s.board (length s.table) d p ≡ Answers tt → called s d (page_test p ∷ own) done ≡ settle s (unless own done)
    page_passed e = ten_passed s d p own done (page_passes s.board (length s.table) d p e)

module _ (b : Board) (words d p : ℕ) where
  -- what 2 to 8, 26 and 10 give
  pub page_accepted : page_reply b words d p ≡ Answers tt → CallAccepted b words d × (p ≤ last_page)
  page_accepted e = ten_accepted b words d p (page_passes b words d p e)
