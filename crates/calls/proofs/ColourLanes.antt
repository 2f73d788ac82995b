-- The lanes of a table by colour: the number of colours divides sixteen, so that the frames of a lane have one colour. What the lanes say of a colour is
-- how many of its frames the domain holds and which is the lowest free one, so that they give the frame that the domain takes next.
use Prim.Native.Nat.{ℕ, ◌+◌, ◌%◌, ◌<◌, ◌≤◌}
use native.Mathlib.Nat.{lt_irrefl, mod-lt}
use native.Mathlib.Omega.{arith}
use mathlib.Core.Bool.{Bool, true, false, ◌&&◌, and-true, and-false}
use mathlib.Core.List.{List, [], ◌∷◌}
use mathlib.Core.Path.{◌≡◌, refl, sym, ap, ◌∙◌}
use lib.Dec.{eqb, ltb, leb}
use lib.ListN.{length}
use borrow.Author.Tests.{eqb-true, ne_eqb, lt-ltb, le-ltb}
use Rattle.limits.specs.Limits.{last_page}
use Rattle.lists.specs.Range.{upto, keep, lowest}
use Rattle.lists.proofs.CaseSplits.{cases, below_or_not, and_both}
use Rattle.lists.proofs.Members.{member_has}
use Rattle.lists.proofs.FilteredRange.{same_kept}
use Rattle.lists.proofs.Searches.{found, kept_missed, none_lowest}
use Rattle.lists.proofs.AgreeingTests.{same_lowest, some_kept}
use Rattle.lists.proofs.FewestNumber.{fewest_found, same_fewest}
use Rattle.colours.specs.Cache.{is_colour_count}
use Rattle.colours.specs.Sets.{has}
use Rattle.colours.proofs.Ranges.{count_range}
use Rattle.board.specs.declared.Board.{Board}
use Rattle.tally.specs.Tally.{is_own, zeros, count_all, note_all}
use Rattle.tally.specs.Lanes.{sum_lanes}
use Rattle.tally.proofs.TableLanes.{sum_counted, least_noted}
use Rattle.calls.specs.Table.{state_of, word, word_of, is_of, has_word, is_free, is_held, frames_with, frames_held}
use Rattle.calls.specs.FrameChoice.{of_colour, in_colour, next_colour, next_frame}
use Rattle.calls.specs.OnePass.{is_lane_of, held_by, free_by, colour_by, frame_by}
use Rattle.calls.proofs.ColourCounts.{same_count, none_counts}

-- a frame and its lane have one colour
pub one_colour : (n f : ℕ) → is_colour_count n ≡ true → f % 16 % n ≡ f % n
unfolding is_colour_count
one_colour n f e =
    member_has (λ (m : ℕ). f % 16 % m ≡ f % m) n (1 ∷ 2 ∷ 4 ∷ 8 ∷ 16 ∷ [])
    (omega arith, (omega arith, (omega arith, (omega arith, (omega arith, tt)))))
    e

-- the 4,096 words of a domain, from its first on
pub own_words : (d x : ℕ) → is_own (word_of d 0) x ≡ is_of d x
own_words d x = let same : word_of d 0 + last_page ≡ word_of d last_page = omega arith in ap (λ (y : ℕ). leb (word_of d 0) x && leb x y) same

-- all lanes have counted the frames that the domain holds
pub all_held : (b : Board) (d : ℕ) (t : List ℕ) → length t ≡ b.frames
    → sum_lanes (λ (i : ℕ). true) (count_all (is_own (word_of d 0)) zeros 0 t) ≡ frames_held (state_of b t) d
unfolding frames_held frames_with
all_held b d t long =
    sum_counted t (is_own (word_of d 0)) (λ (i : ℕ). true)
    ∙ ap length (same_kept _ _ (length t) (λ f l. and-true (is_own (word_of d 0) (word t f)) ∙ own_words d (word t f)))
    ∙ ap (λ (m : ℕ). length (keep (is_held t d) (upto m))) long

-- whether a search finds one is whether any passes
found_some : (p : ℕ → Bool) (m : ℕ) → ltb (lowest p m) m ≡ ltb 0 (length (keep p (upto m)))
found_some p m =
    below_or_not (lowest p m) m
    (λ h. lt-ltb (lowest p m) m h ∙ sym (lt-ltb 0 (length (keep p (upto m))) (some_kept p m (lowest p m) h (found p 0 m h).passes)))
    (λ h. le-ltb (lowest p m) m h ∙ sym (le-ltb 0 (length (keep p (upto m))) (omega (arith, ap length (kept_missed p m h)))))

module _ (n d : ℕ) (t : List ℕ) (ok : is_colour_count n ≡ true) where
  abbrev m : ℕ
  m = length t

  abbrev pub held : List ℕ
  held = count_all (is_own (word_of d 0)) zeros 0 t

  abbrev pub free : List ℕ
  free = note_all zeros 0 t

  -- counts of words, in the lanes whose colour passes a test
  pub sum_is : (p q : ℕ → Bool) → sum_lanes (λ (i : ℕ). q (i % n)) (count_all p zeros 0 t) ≡ length (keep (λ (f : ℕ). p (word t f) && q (f % n)) (upto m))
  sum_is p q =
      sum_counted t p (λ (i : ℕ). q (i % n))
      ∙ ap length (same_kept _ _ m (λ f l. ap (λ (x : ℕ). p (word t f) && q x) (one_colour n f ok)))

  pub held_is : (x : ℕ) → held_by n held x ≡ in_colour n m (is_held t d) x
  unfolding held_by in_colour
  held_is x =
      sum_is (is_own (word_of d 0)) (λ (y : ℕ). eqb y x)
      ∙ ap length (same_kept _ _ m (λ f l. ap (λ (o : Bool). o && eqb (f % n) x) (own_words d (word t f))))

  pub free_is : (x : ℕ) → free_by n m free x ≡ lowest (of_colour n (has_word t 0) x) m
  unfolding free_by
  free_is x =
      least_noted t (is_lane_of n x)
      ∙ same_lowest _ _ m (λ f l. ap (λ (y : ℕ). eqb (word t f) 0 && eqb y x) (one_colour n f ok))

-- The next frame of a table, by the lowest free frame of each colour
module _ (n d : ℕ) (t : List ℕ) (c : ℕ) where
  abbrev frames : ℕ
  frames = length t

  abbrev pub lowest_free : ℕ → ℕ
  lowest_free x = lowest (of_colour n (has_word t 0) x) frames

  -- of a colour in the set every free frame may be taken
  in_the_set : (x : ℕ) → has c x ≡ true → (f : ℕ) → f % n ≡ x → is_free t n c f ≡ has_word t 0 f
  in_the_set x e f z = rw (z, e) (and-true (has_word t 0 f))

  pub candidate : (x : ℕ) → (has c x && ltb (lowest_free x) frames) ≡ ltb 0 (in_colour n frames (is_free t n c) x)
  unfolding in_colour
  candidate x =
      cases (has c x)
      (λ e.
      rw e
      (found_some (of_colour n (has_word t 0) x) frames
      ∙ sym (ap (ltb 0) (same_count n frames (is_free t n c) (has_word t 0) x (λ f l z. in_the_set x e f z)))))
      (λ e.
      rw e
      (sym (ap (ltb 0)
      (same_count n frames (is_free t n c) (λ f. false) x (λ f l z. rw (z, e) (and-false (has_word t 0 f)))
      ∙ none_counts n frames (λ f. false) x (λ f l. refl)))))

  abbrev pub next : ℕ
  next = next_colour n frames (is_free t n c) (is_held t d)

  some_free : next < n → ltb 0 (in_colour n frames (is_free t n c) next) ≡ true
  unfolding next_colour
  some_free h = (fewest_found _ _ n h).passes

  -- the next colour is one of the set, or n, which no frame has
  pub next_is : 0 < n → next_frame n frames (is_free t n c) (is_held t d) ≡ lowest_free next
  unfolding next_frame
  next_is coloured =
      below_or_not next n
      (λ h.
      let e = (and_both (has c next) (ltb (lowest_free next) frames) (candidate next ∙ some_free h)).0 in
      same_lowest _ _ frames (λ f l. cases (eqb (f % n) next) (λ z. ap (λ (o : Bool). o && eqb (f % n) next) (in_the_set next e f (eqb-true _ next z))) (λ z. rw (z, and-false (has_word t 0 f), and-false (is_free t n c f)))))
      (λ h.
      none_lowest _ frames (λ f l. rw (none h f) (and-false (is_free t n c f)))
      ∙ sym (none_lowest _ frames (λ f l. rw (none h f) (and-false (has_word t 0 f)))))
    where
      none : n ≤ next → (f : ℕ) → eqb (f % n) next ≡ false
      none h f = ne_eqb (f % n) next (λ z. lt_irrefl n (omega (arith, z, mod-lt f coloured)))

-- The lanes give it
module _ (n d : ℕ) (t : List ℕ) (c : ℕ) (ok : is_colour_count n ≡ true) where
  colour_is : colour_by n (length t) c (held n d t ok) (free n d t ok) ≡ next n d t c
  unfolding colour_by next_colour
  colour_is =
      same_fewest _ _ _ _ n
      (λ x. rw (free_is n d t ok x) (candidate n d t c x))
      (λ x e. rw (held_is n d t ok x))

  pub frame_is : frame_by n (length t) c (held n d t ok) (free n d t ok) ≡ next_frame n (length t) (is_free t n c) (is_held t d)
  unfolding frame_by
  frame_is =
      ap (free_by n (length t) (free n d t ok)) colour_is
      ∙ free_is n d t ok (next n d t c)
      ∙ sym (next_is n d t c (count_range n ok).0)
