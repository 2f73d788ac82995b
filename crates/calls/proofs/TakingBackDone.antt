-- What 31 leaves of a list: each triple fits, no frame is named twice, and the words are three for each. And a taking back that is done: what its
-- tests leave, its count, and the state after it.
use Prim.Native.Nat.{ℕ, ◌*◌, ◌%◌, ◌<◌, ◌≤◌}
use native.Mathlib.Omega.{arith}
use mathlib.Core.Bool.{true, false, not}
use mathlib.Core.List.{List, [], ◌∷◌, ◌++◌}
use mathlib.Core.Path.{◌≡◌, refl, ap, ◌∙◌}
use lib.ListN.{length}
use borrow.Author.Tests.{eqb-true, ltb-false, leb-false, not-false}
use Rattle.limits.specs.Limits.{last_page}
use Rattle.lists.specs.Range.{is_empty}
use Rattle.lists.proofs.CaseSplits.{cases, and_both, neither}
use Rattle.refusal.specs.Reply.{Answers, Test, unless}
use Rattle.refusal.proofs.Replies.{passed_first, passed_answers}
use Rattle.refusal.proofs.Order.{passed_earlier, passed_later}
use Rattle.board.specs.Tests.{grant, empty_or_outside, call_tests, call_reply}
use Rattle.board.proofs.PassedTests.{CallAccepted, accepted}
use Rattle.calls.specs.Table.{State, word, word_of, in_set, strays}
use Rattle.calls.specs.Calls.{Moved, Move, Done, settle, called}
use Rattle.calls.specs.TakeBack.{move_list, any_move, frames_named, twice, wrong_triple, wrong_move, wrong_list, restored, take_back_tests, take_back}
use Rattle.calls.proofs.CallTests.{settled_answers}
use Rattle.calls.proofs.Moves.{EachMove}

-- a triple that 31 has nothing against
pub record FitsOn (t : List ℕ) (n frames d c : ℕ) (m : Move) : Type 0 where
  pub page : m.page ≤ last_page
  pub old_below : m.source < frames
  pub new_below : m.target < frames
  pub held : word t m.target ≡ word_of d m.page
  pub free : word t m.source ≡ 0
  pub inside : in_set n c m.source ≡ true

abbrev pub Fits : State → ℕ → ℕ → Move → Type 0
Fits s d c m = FitsOn s.table s.board.colours s.board.frames d c m

pub fits_on : (t : List ℕ) (n frames d c : ℕ) (m : Move) → wrong_triple t n frames d c m ≡ false → FitsOn t n frames d c m
fits_on t n frames d c m e =
    let four = neither _ _ e in
    let three = neither _ _ four.0 in
    let two = neither _ _ three.0 in
    let one = neither _ _ two.0 in
    let vacant = and_both _ _ (not-false _ four.1) in
    record {
      page = ltb-false _ _ one.0;
      old_below = leb-false _ _ one.1;
      new_below = leb-false _ _ two.1;
      held = eqb-true _ _ (not-false _ three.1);
      free = eqb-true _ _ vacant.0;
      inside = vacant.1;
    }

-- and a list
pub record ListFits (s : State) (d c : ℕ) (list : List ℕ) : Type 0 where
  pub whole : length list % 3 ≡ 0
  pub each : EachMove (Fits s d c) (move_list list)
  pub apart : twice (frames_named (move_list list)) ≡ false

module _ (s : State) (d c : ℕ) where
  pub triple_fits : (m : Move) → wrong_move s d c m ≡ false → Fits s d c m
  triple_fits m e = fits_on s.table s.board.colours s.board.frames d c m e

  pub triples_fit : (ms : List Move) → any_move (wrong_move s d c) ms ≡ false → EachMove (Fits s d c) ms
  unfolding any_move
  triples_fit [] e = tt
  triples_fit (m ∷ ms) e = let r = neither _ _ e in (triple_fits m r.0, triples_fit ms r.1)

  pub list_fits : (list : List ℕ) → wrong_list s d c list ≡ false → ListFits s d c list
  list_fits list e =
      let two = neither _ _ e in
      let one = neither _ _ two.0 in
      record { whole = eqb-true _ _ (not-false _ one.0); each = triples_fit (move_list list) one.1; apart = two.1 }

-- a list of whole triples has three words for each
pub three_words : (list : List ℕ) → length list % 3 ≡ 0 → length list ≡ 3 * length (move_list list)
unfolding move_list
three_words [] e = refl
three_words (p ∷ []) e = omega (arith, e)
three_words (p ∷ v ∷ []) e = omega (arith, e)
three_words (p ∷ v ∷ g ∷ ws) e = let r = three_words ws (omega (arith, e)) in omega (arith, r)

-- whatever the reply, no triple is written: the list is only read
unmoved : (s : State) (done : Done) → done.moves ≡ [] → (ts : List Test) → (settle s (unless ts done)).moves ≡ []
unfolding unless settle
unmoved s done none [] = none
unmoved s done none (t ∷ ts) = cases t.fails (λ f. rw f refl) (λ f. rw f (unmoved s done none ts))

pub none_written : (s : State) (d c : ℕ) (list : List ℕ) → (take_back s d c list).moves ≡ []
unfolding take_back called
none_written s d c list = unmoved s _ refl _

-- a taking back that is done
pub record TookBack (s : State) (d c : ℕ) (list : List ℕ) (n : ℕ) : Type 0 where
  pub fine : CallAccepted s.board (length s.table) d
  pub inside : empty_or_outside (grant s.board d) c ≡ false
  pub fits : ListFits s d c list
  pub none_outside : strays (restored s d c list) d c ≡ []
  pub count : length (move_list list) ≡ n
  pub words : length list ≡ 3 * n
  pub moves : (take_back s d c list).moves ≡ []
  pub next : (take_back s d c list).next ≡ restored s d c list

none_left : (fs : List ℕ) → not (is_empty fs) ≡ false → fs ≡ []
none_left [] e = refl
none_left (f ∷ fs) e = cc

pub took_back : (s : State) (d c : ℕ) (list : List ℕ) (n : ℕ) → (take_back s d c list).reply ≡ Answers (Moved n) → TookBack s d c list n
unfolding take_back called settle call_reply
took_back s d c list n e =
    let eight : List Test = call_tests s.board (length s.table) d in
    let own : List Test = take_back_tests s d c list in
    let r = settled_answers s _ (eight ++ own) (Moved n) e in
    let nine = passed_first _ _ (passed_later eight own r.0) in
    let right = passed_first _ _ nine.1 in
    let fits = list_fits s d c list right.0 in
    let count : length (move_list list) ≡ n = cc r.1 in
    record {
      fine = accepted s.board (length s.table) d (passed_answers eight (tt {0}) (passed_earlier eight own r.0));
      inside = nine.0;
      fits = fits;
      none_outside = none_left _ (passed_first _ _ right.1).0;
      count = count;
      words = three_words list fits.whole ∙ ap (λ (k : ℕ). 3 * k) count;
      moves = none_written s d c list;
      next = ap (λ o. (settle s o).next) (passed_answers (eight ++ own) _ r.0);
    }
