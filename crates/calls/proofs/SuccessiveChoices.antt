-- The choices one by one: once the first of them has got a word of the domain, the others are the choices that the domain has then. So the targets of
-- a recolouring are those that faults would get, and each counts for the next; and a frame that a move vacates, outside the set, is none of them.
use Prim.Native.Nat.{ℕ, suc, ◌<◌}
use native.Mathlib.Nat.{lt_irrefl}
use native.Mathlib.Omega.{arith}
use mathlib.Core.Bool.{true, false, not, and-true, and-false, or-true, or-false, true≢false}
use mathlib.Core.List.{List, ◌∷◌}
use mathlib.Core.Path.{◌≡◌, refl, sym, ap, ◌∙◌}
use lib.Dec.{eqb}
use lib.ListN.{length, set, length-set}
use lib.Seq.{get_or-set_same, get_or-set_other}
use borrow.Author.Tests.{ne_eqb, eq-eqb, eqb-true, eqb-false, leb-true, not-true}
use Rattle.lists.specs.Range.{is_empty, head_or}
use Rattle.lists.proofs.CaseSplits.{cases, and_both}
use Rattle.lists.proofs.AgreeingTests.{one_more}
use Rattle.calls.specs.Table.{State, state_of, word, word_of, page_for, is_of, in_set, is_free, is_held, is_stray, frames_with, frees}
use Rattle.calls.specs.FrameChoice.{next_frame, taken, choices}
use Rattle.calls.specs.Calls.{move, written}
use Rattle.calls.proofs.ChoiceLaws.{First, first, first_taken, same_taken, choice_local}

-- a word of a domain is not 0
own_word : (d w : ℕ) → is_of d w ≡ true → w ≡ 0 → ⊥
own_word d w own z = lt_irrefl 0 (omega (arith, leb-true (word_of d 0) w (and_both _ _ own).0))

module _ (s : State) (d c w : ℕ) (coloured : 0 < s.board.colours) (long : length s.table ≡ s.board.frames) (own : is_of d w ≡ true)
    (some : is_empty (choices s d c) ≡ false) where
  abbrev t : List ℕ
  t = s.table

  abbrev n : ℕ
  n = s.board.colours

  abbrev m : ℕ
  m = s.board.frames

  abbrev g : ℕ
  g = head_or 0 (choices s d c)

  g_first : First s d c g
  g_first = first s d c coloured some

  -- the table with the word
  abbrev t' : List ℕ
  t' = set t g w

  here : word t' g ≡ w
  here = get_or-set_same t g w 0 (omega (arith, g_first.choice.below, long))

  there : (f : ℕ) → eqb f g ≡ false → word t' f ≡ word t f
  there f e = get_or-set_other t g f w 0 (eqb-false f g e)

  -- the frame is no longer free, and is held; of all others nothing changes
  not_free : is_free t' n c g ≡ false
  not_free = rw (here, ne_eqb w 0 (own_word d w own))

  was_free : is_free t n c g ≡ true
  was_free = rw (g_first.choice.free, g_first.choice.inside)

  one_less_lem : length (frees s c) ≡ suc (length (frees (written s g w) c))
  unfolding frees frames_with
  one_less_lem =
      one_more (is_free t' n c) (is_free t n c) g (λ f other. rw (there f (ne_eqb f g other))) not_free was_free m 0 (omega arith)
      (omega (arith, g_first.choice.below))

  one_by_one : choices s d c ≡ g ∷ choices (written s g w) d c
  unfolding choices taken
  one_by_one =
      let is : next_frame n m (is_free t n c) (is_held t d) ≡ g = sym (first_taken (length (frees s c)) n m (is_free t n c) (is_held t d) some) in
      ap (λ (k : ℕ). taken k n m (is_free t n c) (is_held t d)) one_less_lem
      ∙ rw is
      (ap (λ (fs : List ℕ). g ∷ fs)
      (same_taken n m (length (frees (written s g w) c)) _ _ (is_free t' n c) (is_held t' d)
      (λ f l. cases (eqb f g)
      (λ e. simp (eqb-true f g e, eq-eqb g g refl, not_free, and-false))
      (λ e. simp (e, there f e, and-true)))
      (λ f h l k e z. cases (eqb f g)
      (λ q. simp (eqb-true f g q, eq-eqb g g refl, here, own, or-true))
      (λ q. simp (q, there f q, or-false)))))

-- A move to the first of them: the frame that it vacates is outside the set
pub move_by_move : (s : State) (d c v : ℕ) → 0 < s.board.colours → length s.table ≡ s.board.frames
    → is_stray s.table s.board.colours d c v ≡ true → is_empty (choices s d c) ≡ false
    → let g = head_or 0 (choices s d c) in
    choices s d c ≡ g ∷ choices (state_of s.board (move s.table (record { page = page_for d (word s.table v); source = v; target = g }))) d c
move_by_move s d c v coloured long stray some =
    let n : ℕ = s.board.colours in
    let g : ℕ = head_or 0 (choices s d c) in
    let w : ℕ = word s.table v in
    let o = and_both (is_held s.table d v) (not (in_set n c v)) stray in
    let below : g < length s.table = omega (arith, (first s d c coloured some).choice.below, long) in
    let other : (f : ℕ) → in_set n c f ≡ true → f ≡ v → ⊥ = λ f i q. true≢false (sym i ∙ rw q (not-true (in_set n c v) o.1)) in
    one_by_one s d c w coloured long o.0 some
    ∙ ap (λ (fs : List ℕ). g ∷ fs)
    (choice_local (written s g w) (state_of s.board (set (set s.table v 0) g w)) d c refl refl
    (λ f l i.
    cases (eqb f g)
    (λ e. rw (eqb-true f g e, get_or-set_same s.table g w 0 below) (sym (get_or-set_same (set s.table v 0) g w 0 (simp length-set below))))
    (λ e.
    rw (get_or-set_other s.table g f w 0 (eqb-false f g e), get_or-set_other (set s.table v 0) g f w 0 (eqb-false f g e))
    (sym (get_or-set_other s.table v f 0 0 (other f i))))))
