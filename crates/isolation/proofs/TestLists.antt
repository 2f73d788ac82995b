-- Calls under their tests. What holds of a refusal, and of the outcome where all tests pass, holds of the call, on any board and table. In an accepted state a
-- call goes by 26, its caller's test and its own, and the same holds for two states.
use Prim.Native.Nat.{ℕ, ◌<◌, ◌≤◌}
use mathlib.Core.Bool.{true, false}
use mathlib.Core.List.{List, [], ◌∷◌, ◌++◌, append_assoc, append-nil}
use mathlib.Core.Path.{◌≡◌, refl, ap}
use lib.ListN.{length}
use borrow.Author.Tests.{ltb-false}
use Rattle.lists.proofs.CaseSplits.{cases}
use Rattle.refusal.specs.Reply.{Answers, Refuses, Test, unless, passes}
use Rattle.refusal.proofs.Replies.{passed_first, passed_answers}
use Rattle.refusal.proofs.Order.{unless_passed, passed_earlier, passed_later}
use Rattle.board.specs.declared.Board.{Board}
use Rattle.board.specs.Tests.{board_tests, bad_quotas, quotas_test, state_tests, caller_test, call_tests, call_reply}
use Rattle.board.proofs.PassedTests.{CallAccepted, accepted, caller_below}
use Rattle.calls.specs.Table.{State}
use Rattle.calls.specs.Calls.{Done, Outcome, settle, called, page_test}
use Rattle.isolation.specs.DomainRule.{Accepted}
use Rattle.isolation.proofs.AcceptedBoard.{Live, at}

-- in an accepted state
pub called_accepted : (s : State) (d : ℕ) (own : List Test) (done : Done) → Accepted s
    → called s d own done ≡ settle s (unless (quotas_test s.board ∷ caller_test s.board d ∷ own) done)
unfolding called call_tests state_tests
called_accepted s d own done ok =
    let seven = board_tests s.board (length s.table) in
    let later = quotas_test s.board ∷ caller_test s.board d ∷ own in
    rw (append_assoc (seven ++ (quotas_test s.board ∷ [])) (caller_test s.board d ∷ []) own, append_assoc seven (quotas_test s.board ∷ []) (caller_test s.board d ∷ own))
    (ap (settle s) (unless_passed done done seven later (passed_answers seven done ok)))

-- the page of a call that passes 10
pub small_page : (p : ℕ) (own : List Test) → passes (page_test p ∷ own) ≡ true → (p ≤ 4095) × (passes own ≡ true)
small_page p own ok = let r = passed_first (page_test p) own ok in (ltb-false 4095 p r.0, r.1)

-- what holds of every refusal, and of what is done where the tests pass, holds under the tests, and so of a call on any board and table
module _ (K : Outcome → Type 0) (s : State) (refused : (n r : ℕ) → K (settle s (Refuses n r))) where
  pub unless_any : (ts : List Test) (done : Done) → (passes ts ≡ true → K (settle s (Answers done))) → K (settle s (unless ts done))
  unfolding unless passes
  unless_any [] done f = f refl
  unless_any (t ∷ ts) done f = cases t.fails (λ e. rw e (refused t.number t.row)) (λ e. rw e (unless_any ts done (λ p. f (rw e p))))

  pub called_any : (d : ℕ) (own : List Test) (done : Done)
      → (CallAccepted s.board (length s.table) d → passes own ≡ true → K (settle s (Answers done)))
      → K (called s d own done)
  unfolding called call_reply
  called_any d own done f =
      let eight = call_tests s.board (length s.table) d in
      unless_any (eight ++ own) done (λ p.
      f (accepted s.board (length s.table) d (passed_answers eight (tt {0}) (passed_earlier eight own p))) (passed_later eight own p))

-- one state: what holds of it, and of the next one where the tests pass, holds of the next one after the call
module _ (K : State → Type 0) (s : State) (k : K s) where
  pub next_any : (d : ℕ) (own : List Test) (done : Done)
      → (CallAccepted s.board (length s.table) d → passes own ≡ true → K done.next)
      → K (called s d own done).next
  unfolding settle
  next_any d own done f = called_any (λ o. K o.next) s (λ n r. k) d own done f

  pub called_one : Accepted s → (d : ℕ) (own : List Test) (done : Done)
      → (bad_quotas s.board ≡ false → d < s.board.domains → passes own ≡ true → K done.next)
      → K (called s d own done).next
  unfolding settle
  called_one ok d own done f =
      rw (called_accepted s d own done ok)
      (unless_any (λ o. K o.next) s (λ n r. k) (quotas_test s.board ∷ caller_test s.board d ∷ own) done (λ p.
      let q = passed_first _ _ p in
      let r = passed_first _ own q.1 in
      f q.0 (caller_below s.board d r.0) r.1))

-- two states: the same replies and moves, and related next states
pub record Meet (R : State → State → Type 0) (o q : Outcome) : Type 0 where
  pub reply : o.reply ≡ q.reply
  pub moves : o.moves ≡ q.moves
  pub next : R o.next q.next

module _ (R : State → State → Type 0) {s r : State} (k : R s r) where
  pub answered : {o q : Done} → o.answer ≡ q.answer → o.moves ≡ q.moves → R o.next q.next
      → Meet R (settle s (Answers o)) (settle r (Answers q))
  unfolding settle
  answered answer moves next = record { reply = ap Answers answer; moves = moves; next = next }

  -- the first tests are the same on both sides, and where they pass it goes on
  pub unless_both : (ts us us' : List Test) (o q : Done)
      → (passes ts ≡ true → Meet R (settle s (unless us o)) (settle r (unless us' q)))
      → Meet R (settle s (unless (ts ++ us) o)) (settle r (unless (ts ++ us') q))
  unfolding unless passes settle
  unless_both [] us us' o q f = f refl
  unless_both (t ∷ ts) us us' o q f =
      cases t.fails
      (λ e. rw e (record { reply = refl; moves = refl; next = k }))
      (λ e. rw e (unless_both ts us us' o q (λ p. f (rw e p))))

  -- where all tests are the same
  pub unless_two : (ts : List Test) (o q : Done) → (passes ts ≡ true → Meet R (settle s (Answers o)) (settle r (Answers q)))
      → Meet R (settle s (unless ts o)) (settle r (unless ts q))
  unfolding unless
  unless_two ts o q f = rw (← (append-nil ts)) (unless_both ts [] [] o q f)

-- a call on both sides, of one board with two live parts
module _ (R : State → State → Type 0) (b : Board) (x y : Live) (k : R (at b x) (at b y)) where
  pub called_two : Accepted (at b x) → Accepted (at b y) → bad_quotas (at b x).board ≡ bad_quotas (at b y).board
      → (d : ℕ) (first us us' : List Test) (o q : Done)
      → (bad_quotas (at b y).board ≡ false → d < b.domains → passes first ≡ true → Meet R (settle (at b x) (unless us o)) (settle (at b y) (unless us' q)))
      → Meet R (called (at b x) d (first ++ us) o) (called (at b y) d (first ++ us') q)
  called_two ok ok' same d first us us' o q f =
      rw (called_accepted (at b x) d (first ++ us) o ok, called_accepted (at b y) d (first ++ us') q ok', same)
      (unless_both R k (quotas_test (at b y).board ∷ caller_test b d ∷ first) us us' o q (λ p.
      let z = passed_first _ _ p in
      let r = passed_first _ first z.1 in
      f z.0 (caller_below b d r.0) r.1))
