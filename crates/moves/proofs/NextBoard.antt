-- The board that a call leaves, by its reply: where the call answers it is that of what the call does, and a refusal leaves it as it was.
use Prim.Native.Nat.{ℕ}
use mathlib.Core.List.{List}
use mathlib.Core.Path.{◌≡◌, refl, sym}
use Rattle.refusal.specs.Reply.{Reply, Answers, Refuses, Test, unless}
use Rattle.refusal.proofs.Replies.{passed_answers}
use Rattle.calls.specs.Table.{State}
use Rattle.calls.specs.Calls.{Answer, Done, settle}
use Rattle.calls.proofs.CallTests.{settled_answers}

module _ (s : State) where
  pub board_answered : (done : Done) (ts : List Test) (a : Answer) → Answers a ≡ (settle s (unless ts done)).reply → done.next.board ≡ (settle s (unless ts done)).next.board
  unfolding settle
  board_answered done ts a e = rw (passed_answers ts done (settled_answers s done ts a (sym e)).0) refl

  pub board_refused : (r : Reply Done) (n k : ℕ) → Refuses n k ≡ (settle s r).reply → s.board ≡ (settle s r).next.board
  unfolding settle
  board_refused (Answers d) n k e = cc
  board_refused (Refuses m j) n k e = refl
