-- Recolour by its reply: what the two counts that the code takes say of it, and what a recolouring with that reply does.
use Prim.Native.Nat.{ℕ, ◌*◌, ◌<◌, ◌≤◌}
use native.Mathlib.Omega.{arith}
use mathlib.Core.List.{List, [], ◌∷◌, ◌++◌, append_assoc}
use mathlib.Core.Path.{◌≡◌, refl, sym, ap, ap₂, ◌∙◌}
use lib.Dec.{ltb}
use lib.ListN.{length}
use borrow.Author.Tests.{lt-ltb, le-ltb, ltb-false}
use Rattle.lists.specs.Range.{upto, keep}
use Rattle.refusal.specs.Reply.{Reply, Answers, Refuses, Test, test, unless}
use Rattle.refusal.proofs.Replies.{passed_first, passed_answers, answers_passed}
use Rattle.refusal.proofs.Order.{refuses_alike, unless_refused, unless_passed, passed_earlier, passed_later}
use Rattle.board.specs.declared.Board.{Board}
use Rattle.board.specs.Tests.{grant, empty_or_outside, call_tests, call_reply}
use Rattle.board.proofs.PassedTests.{CallAccepted, accepted}
use Rattle.calls.specs.Table.{State, state_of, is_free, is_held, is_stray, frames_with, frees, strays}
use Rattle.calls.specs.FrameChoice.{taken, choices}
use Rattle.calls.specs.Calls.{Answer, Outcome, Moved, settle, called, pair_up, move_all, in_order, with_active, recolour_tests, recolour, triples, listed}
use Rattle.calls.proofs.ChoiceLaws.{taken_count}
use Rattle.moves.specs.Steps.{set_reply, weighed, recolour_reply, moves_on, Movable}
use Rattle.calls.proofs.CallTests.{refused}

-- 12, 13, or the count
module _ (count free room : ℕ) where
  pub weighed_twelve : free < count → weighed count free room ≡ Refuses 12 0
  unfolding weighed unless
  weighed_twelve l = simp (lt-ltb free count l)

  module _ (enough : count ≤ free) where
    pub weighed_thirteen : room < 3 * count → weighed count free room ≡ Refuses 13 0
    unfolding weighed unless
    weighed_thirteen l = simp (le-ltb free count enough, lt-ltb room (3 * count) l)

    pub weighed_count : 3 * count ≤ room → weighed count free room ≡ Answers (Moved count)
    unfolding weighed unless
    weighed_count l = simp (le-ltb free count enough, le-ltb room (3 * count) l)

module _ (b : Board) (t : List ℕ) (d c : ℕ) where
  abbrev s : State
  s = state_of b t

  abbrev pub held : List ℕ
  held = keep (is_stray t b.colours d c) (upto (length t))

  abbrev pub free : List ℕ
  free = keep (is_free t b.colours c) (upto (length t))

  strays_is : length t ≡ b.frames → strays s d c ≡ held
  unfolding strays frames_with
  strays_is e = rw e

  abbrev nine : Test
  nine = test 9 (empty_or_outside (grant b d) c)

  abbrev later : ℕ → List Test
  later room = test 12 (ltb (length (choices s d c)) (length (strays s d c))) ∷ test 13 (ltb room (3 * length (strays s d c))) ∷ []

  -- 9 stands with 2 to 8 and 26
  in_two : (room : ℕ) → recolour_reply s d c room ≡ unless ((call_tests b (length t) d ++ (nine ∷ [])) ++ later room) (Moved (length (strays s d c)))
  unfolding recolour_reply
  in_two room = ap (λ (ts : List Test). unless ts (Moved (length (strays s d c)))) (sym (append_assoc (call_tests b (length t) d) (nine ∷ []) (later room)))

  abbrev targets : List ℕ
  targets = taken (length free) b.colours (length t) (is_free t b.colours c) (is_held t d)

  choices_is : length t ≡ b.frames → choices s d c ≡ targets
  unfolding choices frees frames_with
  choices_is e = rw e

  -- as many as there are free frames
  target_count : length targets ≡ length free
  target_count = taken_count (length free) b.colours (length t) (is_free t b.colours c) (is_held t d)

  -- the reply by its parts: 2 to 9, and then 12 and 13 by the frames to move and those that they can go to
  pub reply_refused : (room n r : ℕ) → set_reply b (length t) d c ≡ Refuses n r → recolour_reply s d c room ≡ Refuses n r
  unfolding set_reply
  reply_refused room n r e = in_two room ∙ unless_refused (tt {0}) _ (call_tests b (length t) d ++ (nine ∷ [])) (later room) n r e

  module _ (ok : set_reply b (length t) d c ≡ Answers tt) where
    pub set_accepted : CallAccepted b (length t) d
    unfolding set_reply call_reply
    set_accepted =
        accepted b (length t) d (passed_answers (call_tests b (length t) d) (tt {0}) (passed_earlier (call_tests b (length t) d) (nine ∷ []) (answers_passed (call_tests b (length t) d ++ (nine ∷ [])) _ _ ok).0))

    pub reply_weighed : (room : ℕ) → recolour_reply s d c room ≡ weighed (length held) (length free) room
    unfolding set_reply weighed
    reply_weighed room =
        let long = set_accepted.bounds.long in
        in_two room
        ∙ unless_passed (tt {0}) _ (call_tests b (length t) d ++ (nine ∷ [])) (later room) ok
        ∙ ap₂ (λ (vs : List ℕ) (k : ℕ). weighed (length vs) k room) (strays_is long) (ap length (choices_is long) ∙ target_count)

  -- a recolouring whose reply is known
  module _ (m : List ℕ) where
    abbrev tests : List Test
    tests = call_tests b (length t) d ++ recolour_tests s d c (length m)

    -- what a recolouring leaves: its reply, the board, the table and the move list are those of the outcome
    abbrev pub RecolourMeets : Reply Answer → Board → List ℕ → List ℕ → Type 0
    RecolourMeets answer next table after =
        let o = recolour s d c m in
        (answer ≡ o.reply) × ((next ≡ o.next.board) × ((table ≡ o.next.table) × (after ≡ listed o.moves m)))

    -- a refusal leaves all as it was
    pub refusal_meets : (n r : ℕ) → recolour_reply s d c (length m) ≡ Refuses n r → RecolourMeets (Refuses n r) b t m
    unfolding recolour called recolour_reply settle triples
    refusal_meets n r e =
        let is : recolour s d c m ≡ refused s n r = ap (settle s) (refuses_alike _ _ tests n r e) in
        rw is (refl, (refl, (refl, refl)))

    module _ (count : ℕ) (e : recolour_reply s d c (length m) ≡ Answers (Moved count)) where
      -- 2 to 8, 26, 9, 12 and 13 pass, and so many frames are to be moved
      pub call_accepted : CallAccepted b (length t) d
      unfolding recolour_reply call_reply
      call_accepted =
          let all = (answers_passed tests _ _ e).0 in
          accepted b (length t) d (passed_answers (call_tests b (length t) d) (tt {0}) (passed_earlier (call_tests b (length t) d) (recolour_tests s d c (length m)) all))

      moved : length (strays s d c) ≡ count
      unfolding recolour_reply
      moved = let same = (answers_passed tests _ _ e).1 in cc

      pub movable : Movable t m d b.colours c count
      unfolding recolour_reply
      movable =
          let passed = answers_passed tests _ _ e in
          let a = call_accepted in
          let nine = passed_first _ _ (passed_later (call_tests b (length t) d) (recolour_tests s d c (length m)) passed.0) in
          let twelve = passed_first _ _ nine.1 in
          let thirteen = passed_first _ _ twelve.1 in
          record {
            colours = a.passed.count;
            frames = omega (arith, a.bounds);
            domain = omega (arith, a.bounds, a.caller);
            counted = sym moved ∙ ap length (strays_is a.bounds.long);
            room = omega (arith, ltb-false (length (choices s d c)) (length (strays s d c)) twelve.0, moved, ap length (choices_is a.bounds.long), target_count);
            lent = omega (arith, ltb-false (length m) (3 * length (strays s d c)) thirteen.0, moved);
          }

      abbrev done : ℕ → List ℕ → List ℕ → Outcome
      done k vs gs =
          record {
            reply = Answers (Moved k);
            moves = in_order (pair_up d t vs gs);
            next = record { board = with_active b d c; table = move_all t (pair_up d t vs gs) };
          }

      recolour_is : recolour s d c m ≡ done count held targets
      unfolding recolour called settle recolour_reply
      recolour_is =
          let long = call_accepted.bounds.long in
          ap (settle s) (passed_answers tests _ (answers_passed tests _ _ e).0)
          ∙ ap (λ (k : ℕ). done k (strays s d c) (choices s d c)) moved
          ∙ ap₂ (done count) (strays_is long) (choices_is long)

      -- what the code leaves is what the outcome says
      pub recolour_meets :
          (next : Board) (table after : List ℕ)
          → next ≡ with_active b d c
          → (table ≡ move_all t (moves_on t d b.colours c)) × (after ≡ listed (in_order (moves_on t d b.colours c)) m)
          → RecolourMeets (Answers (Moved count)) next table after
      unfolding moves_on
      recolour_meets next table after be te = rw recolour_is (refl, (be, te))
