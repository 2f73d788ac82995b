-- Take back as a call: 2 to 8, 26 and 9, then 31 and 32 by the table and the list, and what it leaves by that reply.
use Prim.Native.Nat.{ℕ}
use mathlib.Core.Bool.{Bool, not}
use mathlib.Core.List.{List, [], ◌∷◌, ◌++◌, append_assoc}
use mathlib.Core.Path.{◌≡◌, refl, sym, ap, ap₂, ◌∙◌}
use lib.ListN.{length}
use Rattle.lists.specs.Range.{is_empty}
use Rattle.refusal.specs.Reply.{Reply, Answers, Refuses, Test, test, unless}
use Rattle.refusal.proofs.Replies.{passed_answers, answers_passed}
use Rattle.refusal.proofs.Order.{refuses_alike, unless_refused, unless_passed}
use Rattle.board.specs.declared.Board.{Board}
use Rattle.board.specs.Tests.{grant, empty_or_outside, call_tests}
use Rattle.calls.specs.Table.{State, state_of, frames_with, strays}
use Rattle.calls.specs.Calls.{Answer, Done, Outcome, Moved, settle, called, move_all, with_active}
use Rattle.calls.specs.TakeBack.{move_list, backward, wrong_words, wrong_list, restored, take_back}
use Rattle.moves.specs.Steps.{set_reply}
use Rattle.taking_back.specs.Triples.{wrong_triples, left, taken_back}
use Rattle.calls.proofs.CallTests.{refused}
use Rattle.moves.proofs.RecolouringReply.{set_accepted}

module _ (b : Board) (t : List ℕ) (d c : ℕ) (list : List ℕ) where
  abbrev s : State
  s = state_of b t

  -- what it leaves: its reply, the board and the table are those of the outcome
  abbrev pub TakeBackMeets : Reply Answer → Board → List ℕ → Type 0
  TakeBackMeets answer next table = let o = take_back s d c list in (answer ≡ o.reply) × ((next ≡ o.next.board) × (table ≡ o.next.table))

  meets : (o : Outcome) → take_back s d c list ≡ o → TakeBackMeets o.reply o.next.board o.next.table
  meets o e = rw e (refl, (refl, refl))

  abbrev first : List Test
  first = call_tests b (length t) d ++ (test 9 (empty_or_outside (grant b d) c) ∷ [])

  abbrev later : List Test
  later = test 31 (wrong_list s d c list) ∷ test 32 (not (is_empty (strays (restored s d c list) d c))) ∷ []

  abbrev done : Done
  done = record { answer = Moved (length (move_list list)); moves = []; next = restored s d c list }

  -- 9 stands with 2 to 8 and 26
  in_two : take_back s d c list ≡ settle s (unless (first ++ later) done)
  unfolding take_back called
  in_two = ap (λ (ts : List Test). settle s (unless ts done)) (sym (append_assoc (call_tests b (length t) d) (test 9 (empty_or_outside (grant b d) c) ∷ []) later))

  -- 2 to 8, 26 and 9
  pub set_refused : (n r : ℕ) → set_reply b (length t) d c ≡ Refuses n r → TakeBackMeets (Refuses n r) b t
  unfolding set_reply settle
  set_refused n r e = meets (refused s n r) (in_two ∙ ap (settle s) (unless_refused (tt {0}) done first later n r e))

  module _ (ok : set_reply b (length t) d c ≡ Answers tt) where
    long : length t ≡ b.frames
    long = (set_accepted b t d c ok).bounds.long

    abbrev judged : List Test
    judged = test 31 (wrong_triples t b.colours d c list) ∷ test 32 (not (is_empty (left t b.colours d c list))) ∷ []

    -- 31 and 32 by the table's length
    wrong_is : wrong_list s d c list ≡ wrong_triples t b.colours d c list
    unfolding wrong_triples
    wrong_is = ap (λ (n : ℕ). wrong_words t b.colours n d c list) (sym long)

    left_is : strays (restored s d c list) d c ≡ left t b.colours d c list
    unfolding strays frames_with
    left_is = rw long refl

    call_is : take_back s d c list ≡ settle s (unless judged done)
    unfolding set_reply
    call_is =
        in_two
        ∙ ap (settle s) (unless_passed (tt {0}) done first later ok)
        ∙ ap₂ (λ (w : Bool) (vs : List ℕ). settle s (unless (test 31 w ∷ test 32 (not (is_empty vs)) ∷ []) done)) wrong_is left_is

    pub judged_refused : (n r : ℕ) → taken_back t b.colours d c list ≡ Refuses n r → TakeBackMeets (Refuses n r) b t
    unfolding taken_back settle
    judged_refused n r e = meets (refused s n r) (call_is ∙ ap (settle s) (refuses_alike _ done judged n r e))

    pub judged_taken : (k : ℕ) → taken_back t b.colours d c list ≡ Answers (Moved k)
        → (next : Board) (table : List ℕ) → next ≡ with_active b d c → table ≡ move_all t (backward (move_list list))
        → TakeBackMeets (Answers (Moved k)) next table
    unfolding taken_back settle
    judged_taken k e next table be te =
        let r = answers_passed judged _ _ e in
        let is = call_is ∙ ap (settle s) (passed_answers judged done r.0) in
        let m = meets _ is in
        (ap Answers (sym r.1) ∙ m.0, (be ∙ m.1.0, te ∙ m.1.1))
