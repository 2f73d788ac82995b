-- What the passes over the table of a call give: the words beyond the most frames and the bound on a first word play no part there. The sums by which a
-- recolouring is judged, and that the keys of a fault are words.
use Rattle.std.proofs.Common.{◌≡◌, ℕ, ◌<◌, ◌≤◌, Bool, true, false, not, ◌&&◌, if◌then◌else◌, eqb, ltb, List, Option, None, Some, length, get_or, sym, refl, ap, ◌∙◌, arith, take_all as take_whole, lt-ltb, eq-eqb, ne_eqb, eqb-true}
use borrow.Author.Tests.{eqb-false}
use Rattle.limits.specs.Limits.{most_frames, last_first}
use Rattle.lists.specs.Range.{upto, keep, total}
use Rattle.lists.proofs.CaseSplits.{cases}
use Rattle.lists.proofs.FilteredRange.{same_kept}
use Rattle.colours.specs.Cache.{is_colour_count}
use Rattle.colours.specs.Sets.{has}
use Rattle.colours.proofs.Ranges.{count_range}
use Rattle.board.specs.declared.Board.{Board}
use Rattle.tally.specs.Tally.{is_own, zeros, count_all, note_all, start, take_all}
use Rattle.tally.specs.Lanes.{sum_lanes}
use Rattle.pass.specs.Steps.{read, at_most, own_in, survey_of}
use Rattle.table_words.specs.Sets.{masked_in}
use Rattle.table_words.proofs.Masks.{masked_is}
use Rattle.calls.specs.Table.{state_of, word, word_of, in_set, is_free, is_held, is_stray, frames_with, frames_held}
use Rattle.calls.specs.OnePass.{held_by, free_by, frame_by, after}
use Rattle.calls.proofs.ColourLanes.{own_words, sum_is, held_is, free_is}
use Rattle.choice.specs.LaneSums.{side_of}
use Rattle.choice.specs.Keys.{as_count, KeysFit, ByLeastKey}
use Rattle.choice.proofs.Counts.{count_itself}
use Rattle.choice.proofs.ChosenFrame.{chosen_is}
use Rattle.choice.proofs.TableKeys.{keys_fit}

-- sums over lanes by tests that agree
same_sum : (p q : ℕ → Bool) (lanes : List ℕ) → ((i : ℕ) → p i ≡ q i) → sum_lanes p lanes ≡ sum_lanes q lanes
unfolding sum_lanes
same_sum p q lanes e = ap (total (λ (i : ℕ). get_or lanes i 0)) (same_kept p q 16 (λ i l. e i))

module _ (t : List ℕ) (d : ℕ) (most : length t ≤ most_frames) (low : d < 8) where
  all_read : read t ≡ t
  all_read = take_whole most_frames t most

  first_is : at_most last_first (word_of d 0) ≡ word_of d 0
  unfolding at_most
  first_is = rw (lt-ltb (word_of d 0) last_first (omega arith))

  -- the fault's pass
  pub kept_is : (p w first : ℕ) → w ≡ word_of d p → first ≡ word_of d 0 → take_all (start w (at_most last_first first)) (read t) ≡ after d p t
  unfolding after
  kept_is p w first e f = rw (e, f, first_is, all_read) refl

  -- the count for a quota
  pub held_counted : (b : Board) → length t ≡ b.frames → (first : ℕ) → first ≡ word_of d 0 → own_in (at_most last_first first) (read t) ≡ frames_held (state_of b t) d
  unfolding own_in frames_held frames_with
  held_counted b long first f =
      rw (f, first_is, all_read)
      (ap length (same_kept _ _ (length t) (λ g l. own_words d (word t g))) ∙ ap (λ (n : ℕ). length (keep (is_held t d) (upto n))) long)

  -- the survey
  pub surveyed_is : (first : ℕ) → first ≡ word_of d 0 → survey_of (at_most last_first first) (read t) ≡ survey_of (word_of d 0) t
  surveyed_is first f = rw (f, first_is, all_read) refl

  -- the domain's words alone, by lane
  pub lanes_are : (first : ℕ) → first ≡ word_of d 0 → count_all (is_own (at_most last_first first)) zeros 0 (read t) ≡ count_all (is_own (word_of d 0)) zeros 0 t
  lanes_are first f = rw (f, first_is, all_read) refl

  module _ (n c : ℕ) (ok : is_colour_count n ≡ true) where
    abbrev m : ℕ
    m = length t

    abbrev held : List ℕ
    held = count_all (is_own (word_of d 0)) zeros 0 t

    abbrev free : List ℕ
    free = note_all zeros 0 t

    -- the sums that a recolouring is judged by
    pub strays_counted : sum_lanes (λ (i : ℕ). side_of false (masked_in n c i)) held ≡ length (keep (is_stray t n d c) (upto m))
    strays_counted =
        same_sum (λ (i : ℕ). side_of false (masked_in n c i)) (λ (i : ℕ). not (in_set n c i)) held (λ i. ap not (masked_is n c i ok))
        ∙ sum_is n d t ok (is_own (word_of d 0)) (λ (x : ℕ). not (has c x))
        ∙ ap length (same_kept _ _ m (λ f l. ap (λ (o : Bool). o && not (in_set n c f)) (own_words d (word t f))))

    pub frees_counted : sum_lanes (λ (i : ℕ). side_of true (masked_in n c i)) (count_all (eqb 0) zeros 0 t) ≡ length (keep (is_free t n c) (upto m))
    frees_counted =
        same_sum (λ (i : ℕ). side_of true (masked_in n c i)) (in_set n c) (count_all (eqb 0) zeros 0 t) (λ i. masked_is n c i ok)
        ∙ sum_is n d t ok (eqb 0) (has c)
        ∙ ap length (same_kept _ _ m (λ f l. ap (λ (o : Bool). o && in_set n c f) (turned_round (word t f))))
      where
        turned_round : (x : ℕ) → eqb 0 x ≡ eqb x 0
        turned_round x = cases (eqb x 0) (λ e. eq-eqb 0 x (sym (eqb-true x 0 e)) ∙ sym e) (λ e. ne_eqb 0 x (λ z. eqb-false x 0 e (sym z)) ∙ sym e)

    pub lanes_fit : KeysFit n m (held_by n held) (free_by n m free) c
    lanes_fit x l e h =
        omega (arith, held_is n d t ok x, keys_fit n d t ok most x l (omega (arith, h, free_is n d t ok x)))

    -- the frame that a fault takes
    pub chosen_on :
        (lanes notes : List ℕ) → lanes ≡ held → notes ≡ free → (r : Option ℕ) → ByLeastKey (as_count n) m c lanes notes r
        → r ≡ (let f = frame_by n m c lanes notes in if ltb f m then Some f else None)
    chosen_on lanes notes h f r by =
        let range = count_range n ok in
        let fit : KeysFit n m (held_by n lanes) (free_by n m notes) c = rw (h, f) lanes_fit in
        chosen_is n m c lanes notes range.0 range.1 fit r (rw (count_itself n ok) at by)
