-- Take back by its reply: 31, 32 and the count of moves by what the list comes to and one count of the table; the moves back one by one; and what a taking
-- back with a known reply does.
use Prim.Native.Nat.{ℕ, ◌+◌, ◌*◌, ◌/◌, ◌%◌, ◌<◌, ◌≤◌}
use native.Mathlib.Omega.{arith}
use mathlib.Core.Bool.{true, false, not}
use mathlib.Core.List.{List, [], ◌∷◌}
use mathlib.Core.Path.{◌≡◌, refl, ap, ◌∙◌}
use lib.Dec.{eqb, leb}
use lib.ListN.{length, drop, length-set}
use borrow.Author.Tests.{eqb-true, not-false, lt-leb, leb-false}
use Rattle.lists.specs.Range.{upto, keep, is_empty}
use Rattle.lists.proofs.CaseSplits.{neither}
use Rattle.refusal.specs.Reply.{Answers, Refuses, unless}
use Rattle.refusal.proofs.Replies.{passed_first, answers_passed}
use Rattle.calls.specs.Table.{is_stray}
use Rattle.calls.specs.Calls.{Move, Moved, move, move_all}
use Rattle.calls.specs.TakeBack.{move_list, any_move, frames_named, twice, back, backward}
use Rattle.calls.proofs.TakingBackDone.{fits_on, three_words}
use Rattle.taking_back.specs.Triples.{move_at, unfit, outsides, wrong_triples, left, taken_back, beyond, NamesFrames}
use Rattle.taking_back.proofs.TripleWords.{next_triple, no_triple}
use Rattle.taking_back.proofs.FramesOutside.{all_back, few_moves}

-- a list without members
none_left : (xs : List ℕ) → length xs ≡ 0 → is_empty xs ≡ true
none_left [] e = refl
none_left (x ∷ xs) e = absurd (omega (arith, e))

some_left : (xs : List ℕ) → (length xs ≡ 0 → ⊥) → is_empty xs ≡ false
some_left [] e = absurd (e refl)
some_left (x ∷ xs) e = refl

module _ (t : List ℕ) (n d c : ℕ) (list : List ℕ) where
  -- 31
  pub thirty_one : wrong_triples t n d c list ≡ true → taken_back t n d c list ≡ Refuses 31 0
  unfolding taken_back unless
  thirty_one e = rw e refl

  -- an answer says that 31 has passed
  pub taken_right : (k : ℕ) → taken_back t n d c list ≡ Answers (Moved k) → wrong_triples t n d c list ≡ false
  unfolding taken_back
  taken_right k e = (passed_first _ _ (answers_passed _ _ _ e).0).0

  module _ (right : wrong_triples t n d c list ≡ false) where
    parts : (length list % 3 ≡ 0) × (any_move (unfit t n d c) (move_list list) ≡ false) × (twice (frames_named (move_list list)) ≡ false)
    unfolding wrong_triples
    parts =
        let a = neither _ (twice (frames_named (move_list list))) right in
        let b = neither (not (eqb (length list % 3) 0)) (any_move (unfit t n d c) (move_list list)) a.0 in
        (eqb-true (length list % 3) 0 (not-false _ b.0), b.1, a.1)

    -- a third of its words, and at most half as many as there are frames
    pub count_is : length (move_list list) ≡ length list / 3
    count_is = omega (arith, parts.0, three_words list parts.0)

    pub count_most : 2 * (length list / 3) ≤ length t
    count_most = omega (arith, count_is, few_moves n d c t (move_list list) parts.1 parts.2)

    abbrev counted : ℕ
    counted = length (keep (is_stray t n d c) (upto (length t)))

    strays_left : counted ≡ outsides n c (move_list list) + length (left t n d c list)
    strays_left = all_back n d c (move_list list) t parts.1 parts.2

    -- 32
    pub thirty_two : (counted ≡ outsides n c (move_list list) → ⊥) → taken_back t n d c list ≡ Refuses 32 0
    unfolding taken_back unless
    thirty_two differ = rw (right, some_left (left t n d c list) (λ z. differ (omega (arith, strays_left, z)))) refl

    pub taken : counted ≡ outsides n c (move_list list) → taken_back t n d c list ≡ Answers (Moved (length list / 3))
    unfolding taken_back unless
    taken same = rw (right, none_left (left t n d c list) (omega (arith, strays_left, same)), count_is) refl

    -- its frames are there
    below : (m : Move) → unfit t n d c m ≡ false → beyond (length t) m ≡ false
    below m e = let ok = fits_on t n (length t) d c m e in rw (lt-leb (length t) m.source ok.old_below, lt-leb (length t) m.target ok.new_below) refl

    all_below : (ms : List Move) → any_move (unfit t n d c) ms ≡ false → any_move (beyond (length t)) ms ≡ false
    unfolding any_move
    all_below [] e = refl
    all_below (m ∷ ms) e = let r = neither (unfit t n d c m) _ e in rw (below m r.0, all_below ms r.1) refl

    pub names_frames : NamesFrames (length t) list
    names_frames = (parts.0, all_below (move_list list) parts.1)

-- The moves back, after k of them
module _ (start list : List ℕ) where
  pub record GoingBack (t : List ℕ) (k : ℕ) : Type 0 where
    pub within : k ≤ length list / 3
    pub long : length t ≡ length start
    pub names : any_move (beyond (length start)) (move_list (drop (3 * k) list)) ≡ false
    pub result : move_all start (backward (move_list list)) ≡ move_all t (backward (move_list (drop (3 * k) list)))

  pub back_start : NamesFrames (length start) list → GoingBack start 0
  back_start ok = record { within = omega arith; long = refl; names = ok.1; result = refl }

  module _ {t : List ℕ} {k : ℕ} (whole : length list % 3 ≡ 0) (h : GoingBack t k) where
    module _ (some : k < length list / 3) where
      abbrev m : Move
      m = move_at list k

      pub back_in_list : 3 * k + 2 < length list
      back_in_list = omega (arith, whole)

      named : (beyond (length start) m ≡ false) × (any_move (beyond (length start)) (move_list (drop (3 * (k + 1)) list)) ≡ false)
      unfolding any_move
      named = neither (beyond (length start) m) _ (rw (next_triple list k back_in_list) at h.names)

      pub frames_below : (m.source < length t) × (m.target < length t)
      frames_below =
          let r = neither (leb (length start) m.source) _ named.0 in
          (omega (arith, leb-false (length start) m.source r.0, h.long), omega (arith, leb-false (length start) m.target r.1, h.long))

      pub back_next : GoingBack (move t (back m)) (k + 1)
      unfolding move_all backward
      back_next =
          record {
            within = omega arith;
            long = simp length-set h.long;
            names = named.1;
            result = h.result ∙ ap (λ (ms : List Move). move_all t (backward ms)) (next_triple list k back_in_list);
          }

    pub back_end : length list / 3 ≤ k → move_all start (backward (move_list list)) ≡ t
    unfolding move_all backward
    back_end over = h.result ∙ ap (λ (ms : List Move). move_all t (backward ms)) (no_triple list k (omega (arith, whole)))
