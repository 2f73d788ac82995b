-- The triples of a list one by one, with the marks of the frames named so far: what a loop over them knows, and what the list comes to where a triple is wrong
-- and where the loop ends.
use Prim.Native.Nat.{ℕ, ◌+◌, ◌*◌, ◌/◌, ◌%◌, ◌<◌, ◌≤◌}
use native.Mathlib.Omega.{arith}
use mathlib.Core.Bool.{Bool, true, false, ◌||◌}
use mathlib.Core.List.{List}
use mathlib.Core.Path.{◌≡◌, refl, sym, ap, ◌∙◌}
use lib.ListN.{length, get_or, set, drop, length-set}
use borrow.Author.Tests.{eq-eqb, ne_eqb}
use Rattle.limits.specs.Limits.{most_frames}
use Rattle.lists.proofs.CaseSplits.{cases}
use Rattle.calls.specs.Table.{in_set}
use Rattle.calls.specs.Calls.{Move}
use Rattle.calls.specs.TakeBack.{move_list, any_move, frames_named, twice}
use Rattle.taking_back.specs.Triples.{move_at, unfit, is_marked, outside, outsides, wrong_from, wrong_triples}
use Rattle.taking_back.proofs.TripleWords.{next_triple, no_triple}
use Rattle.taking_back.proofs.Marks.{by_marks, no_marks}

or_false : (a : Bool) → (a || false) ≡ a
or_false true = refl
or_false false = refl

module _ (t list : List ℕ) (n d c : ℕ) where
  pub outside_most : (f : ℕ) → outside n c f ≤ 1
  outside_most f = cases (in_set n c f) (λ e. rw e (omega arith)) (λ e. rw e (omega arith))

  -- after k triples
  pub record Checking (marks : List ℕ) (out k : ℕ) : Type 0 where
    pub whole : length list % 3 ≡ 0
    pub within : k ≤ length list / 3
    pub few : out ≤ k
    pub long : most_frames ≡ length marks
    pub wrong : wrong_triples t n d c list ≡ wrong_from t n d c marks (move_list (drop (3 * k) list))
    pub count : outsides n c (move_list list) ≡ out + outsides n c (move_list (drop (3 * k) list))

  pub checking_same : {marks seen : List ℕ} {out sum k : ℕ} → seen ≡ marks → sum ≡ out → Checking marks out k → Checking seen sum k
  checking_same e f h = rw (e, f) h

  pub not_whole : (length list % 3 ≡ 0 → ⊥) → wrong_triples t n d c list ≡ true
  unfolding wrong_triples
  not_whole odd = rw (ne_eqb (length list % 3) 0 odd) refl

  pub checking_start : length t ≤ most_frames → (marks : List ℕ) → most_frames ≡ length marks → ((f : ℕ) → get_or marks f 0 ≡ 0) → length list % 3 ≡ 0 → Checking marks 0 0
  unfolding wrong_triples
  checking_start most marks long none whole =
      let ms = move_list list in
      record {
        whole = whole;
        within = omega arith;
        few = omega arith;
        long = long;
        wrong =
            rw (eq-eqb (length list % 3) 0 whole)
            (sym (or_false (any_move (unfit t n d c) ms || twice (frames_named ms)))
            ∙ sym (ap (λ (o : Bool). any_move (unfit t n d c) ms || twice (frames_named ms) || o) (no_marks marks (frames_named ms) none))
            ∙ sym (by_marks t n d c most ms marks long));
        count = omega arith;
      }

  module _ {marks : List ℕ} {out k : ℕ} (h : Checking marks out k) (some : k < length list / 3) where
    abbrev m : Move
    m = move_at list k

    -- its words are there
    pub in_list : 3 * k + 2 < length list
    in_list = omega arith

    goes_on : wrong_triples t n d c list
        ≡ (unfit t n d c m || is_marked marks m.source || is_marked (set marks m.source 1) m.target
        || wrong_from t n d c (set (set marks m.source 1) m.target 1) (move_list (drop (3 * (k + 1)) list)))
    unfolding wrong_from
    goes_on = h.wrong ∙ ap (wrong_from t n d c marks) (next_triple list k in_list)

    pub wrong_itself : unfit t n d c m ≡ true → wrong_triples t n d c list ≡ true
    wrong_itself e = goes_on ∙ rw e refl

    pub wrong_twice : unfit t n d c m ≡ false → (is_marked marks m.source || is_marked (set marks m.source 1) m.target) ≡ true
        → wrong_triples t n d c list ≡ true
    wrong_twice e f = goes_on ∙ rw (e, f) refl

    pub checking_next : unfit t n d c m ≡ false → (is_marked marks m.source || is_marked (set marks m.source 1) m.target) ≡ false
        → Checking (set (set marks m.source 1) m.target 1) (out + outside n c m.target) (k + 1)
    unfolding outsides
    checking_next e f =
        record {
          whole = h.whole;
          within = omega arith;
          few = omega (arith, h.few, outside_most m.target);
          long = simp length-set h.long;
          wrong = goes_on ∙ rw (e, f) refl;
          count = omega (arith, h.count, ap (outsides n c) (next_triple list k in_list));
        }

  module _ {marks : List ℕ} {out k : ℕ} (h : Checking marks out k) (over : length list / 3 ≤ k) where
    pub checked_right : wrong_triples t n d c list ≡ false
    unfolding wrong_from
    checked_right = h.wrong ∙ ap (wrong_from t n d c marks) (no_triple list k (omega (arith, h.whole)))

    pub checked_count : outsides n c (move_list list) ≡ out
    unfolding outsides
    checked_count = omega (arith, h.count, ap (outsides n c) (no_triple list k (omega (arith, h.whole))))
