-- The theorem of document 02, No. 2, with the choice of No. 7 and the quota of No. 6: the numbers kept after any first part of the table, with the words after it, give the fault's
-- answer and the frame that gets the word; and that these numbers are few and small. The code of the fault goes by its three cases at the end.
use Prim.Native.Nat.{ℕ, suc, ◌+◌, ◌-◌, ◌^◌, ◌<◌, ◌≤◌}
use native.Mathlib.Nat.{lt_irrefl}
use native.Mathlib.Omega.{arith}
use mathlib.Core.Bool.{Bool, true, false}
use mathlib.Core.List.{List, [], ◌∷◌, ◌++◌}
use mathlib.Core.Path.{◌≡◌, refl, sym, ap, ◌∙◌}
use lib.Dec.{eqb, ltb, leb}
use lib.Bits.{bit_and, and_le_r}
use lib.ListN.{length, length-append}
use borrow.Author.Tests.{lt-ltb, le-ltb, eqb-true, not-false}
use Rattle.lists.specs.Range.{upto, keep, any_of, lowest}
use Rattle.lists.proofs.CaseSplits.{cases, below_or_not, neither}
use Rattle.lists.proofs.Members.{member_has}
use Rattle.lists.proofs.Searches.{kept_found, kept_missed}
use Rattle.refusal.specs.Reply.{Answers, Refuses, unless, passes}
use Rattle.colours.specs.Cache.{is_colour_count}
use Rattle.colours.proofs.Ranges.{count_range, colour_set_lem}
use Rattle.board.specs.declared.Board.{Board}
use Rattle.board.specs.Tests.{grant, active_set, quota}
use Rattle.board.proofs.PassedTests.{CallAccepted, quotas_split, quota_range}
use Rattle.tally.specs.declared.Tally.{Tally}
use Rattle.tally.specs.Tally.{is_own, zeros, LanesAtMost, count_all, note_all, start, so_far, found, tally_numbers}
use Rattle.tally.proofs.ClosedForm.{zeros_length, zeros_within, take_append, has_come, not_come, sound}
use Rattle.calls.specs.Table.{State, state_of, word_of, has_word, is_free, is_held, frames_with, mapped_to}
use Rattle.calls.specs.FrameChoice.{next_frame, choices}
use Rattle.calls.specs.Calls.{Outcome, Old, New, settle, page_tests, written, fault_done, at_quota, fault_tests, fault}
use Rattle.calls.specs.OnePass.{after, frame_for, at_quota_by, answer_of, taker_of, answer, taker, with_word, all_numbers}
use Rattle.calls.proofs.CallTests.{ten_passed, ten_accepted}
use Rattle.calls.proofs.ChoiceLaws.{next_some, next_first, next_none}
use Rattle.calls.proofs.ColourLanes.{all_held, frame_is}

module _ (b : Board) (d p : ℕ) (t : List ℕ) (ok : passes (page_tests b (length t) d p) ≡ true) where
  abbrev s : State
  s = state_of b t

  abbrev w : ℕ
  w = word_of d p

  fine : CallAccepted b (length t) d
  fine = (ten_accepted b (length t) d p ok).0

  coloured : 0 < b.colours
  coloured = (count_range b.colours fine.passed.count).0

  abbrev holds : ℕ → Bool
  holds = has_word t w

  abbrev gs : List ℕ
  gs = choices s d (active_set b d)

  -- the frame that the domain takes next
  abbrev g : ℕ
  g = next_frame b.colours b.frames (is_free t b.colours (active_set b d)) (is_held t d)

  abbrev faulted : List ℕ → Outcome
  faulted fs = settle s (unless (fault_tests s d fs gs) (fault_done s w fs gs))

  mapped_is : mapped_to s d p ≡ keep holds (upto (length t))
  unfolding mapped_to frames_with
  mapped_is = rw fine.bounds.long

  fault_is : fault s d p ≡ faulted (keep holds (upto (length t)))
  unfolding fault
  fault_is =
      ten_passed s d p (fault_tests s d (mapped_to s d p) gs) (fault_done s w (mapped_to s d p) gs) ok
      ∙ ap faulted mapped_is

  -- the fault's outcome, by what is kept
  abbrev given : Tally → Outcome
  given k = record { reply = answer_of b d k; moves = []; next = state_of b (with_word b.frames (taker_of b d k) w t) }

  -- the page has a frame
  module _ (k : Tally) where
    given_old : 0 < k.mapped → given k ≡ record { reply = Answers (Old (k.mapped - 1)); moves = []; next = s }
    unfolding answer_of taker_of with_word
    given_old l = simp (lt-ltb 0 k.mapped l, le-ltb b.frames b.frames (omega arith))

    module _ (none : k.mapped ≤ 0) where
      given_full : at_quota_by b d k ≡ true → given k ≡ record { reply = Refuses 28 0; moves = []; next = s }
      unfolding answer_of taker_of with_word
      given_full full = simp (le-ltb 0 k.mapped none, full, le-ltb b.frames b.frames (omega arith))

      given_new : at_quota_by b d k ≡ false → frame_for b d k < b.frames → given k ≡ record { reply = Answers (New (frame_for b d k)); moves = []; next = written s (frame_for b d k) w }
      unfolding answer_of taker_of with_word
      given_new below l = simp (le-ltb 0 k.mapped none, below, lt-ltb (frame_for b d k) b.frames l)

      given_none : at_quota_by b d k ≡ false → b.frames ≤ frame_for b d k → given k ≡ record { reply = Refuses 12 0; moves = []; next = s }
      unfolding answer_of taker_of with_word
      given_none below l = simp (le-ltb 0 k.mapped none, below, le-ltb (frame_for b d k) b.frames l)

  -- the fault, by the lowest frame with the word and the frame to take
  old_is : lowest holds (length t) < length t → fault s d p ≡ record { reply = Answers (Old (lowest holds (length t))); moves = []; next = s }
  unfolding unless settle
  old_is l = fault_is ∙ ap faulted (kept_found holds (length t) l)

  unmapped : length t ≤ lowest holds (length t) → fault s d p ≡ faulted []
  unmapped h = fault_is ∙ ap faulted (kept_missed holds (length t) h)

  full_is : length t ≤ lowest holds (length t) → at_quota s d ≡ true → fault s d p ≡ record { reply = Refuses 28 0; moves = []; next = s }
  unfolding unless settle
  full_is h full = unmapped h ∙ rw full refl

  new_is : length t ≤ lowest holds (length t) → at_quota s d ≡ false → g < b.frames → fault s d p ≡ record { reply = Answers (New g); moves = []; next = written s g w }
  unfolding unless settle
  new_is h below l =
      unmapped h
      ∙ rw (below, next_some s d (active_set b d) coloured l)
      (ap (λ (f : ℕ). record { reply = Answers (New f); moves = []; next = written s f w }) (next_first s d (active_set b d) coloured l))

  none_is : length t ≤ lowest holds (length t) → at_quota s d ≡ false → b.frames ≤ g → fault s d p ≡ record { reply = Refuses 12 0; moves = []; next = s }
  unfolding unless settle
  none_is h below l = unmapped h ∙ rw (below, next_none s d (active_set b d) coloured l) refl

  -- all words taken in
  abbrev pub end : Tally
  end = after d p t

  abbrev pub lanes : Tally
  lanes = so_far w (word_of d 0) (count_all (is_own (word_of d 0)) zeros 0 t) (note_all zeros 0 t) (0 + length t)

  end_come : lowest holds (length t) < length t → end ≡ found w (word_of d 0) (0 + lowest holds (length t) + 1)
  unfolding after start
  end_come h = has_come w (word_of d 0) 0 t zeros zeros h

  end_passed : length t ≤ lowest holds (length t) → end ≡ lanes
  unfolding after start
  end_passed h = not_come w (word_of d 0) 0 t zeros zeros h

  -- where the page's word has not come, the lanes have the whole table
  pub end_lanes : end.mapped ≤ 0 → end ≡ lanes
  end_lanes none =
      let low : ℕ = lowest holds (length t) in
      below_or_not low (length t)
      (λ h. absurd (lt_irrefl 0 (omega (arith, none, ap (λ (k : Tally). k.mapped) (end_come h)))))
      end_passed

  -- the lanes give the frame that the domain takes
  frame_for_lem : frame_for b d lanes ≡ g
  unfolding frame_for
  frame_for_lem = rw (← fine.bounds.long) (frame_is b.colours d t (active_set b d) fine.passed.count)

  -- and say whether it is at its quota
  at_quota_lem : at_quota_by b d lanes ≡ at_quota s d
  unfolding at_quota_by
  at_quota_lem = ap (leb (quota b d)) (all_held b d t fine.bounds.long)

  whole_pass : given end ≡ fault s d p
  whole_pass =
      let low : ℕ = lowest holds (length t) in
      below_or_not low (length t)
      (λ h.
      let number : 0 + low + 1 - 1 ≡ low = omega arith in
      ap given (end_come h)
      ∙ given_old (found w (word_of d 0) (0 + low + 1)) (omega arith)
      ∙ ap (λ (f : ℕ). record { reply = Answers (Old f); moves = []; next = s }) number
      ∙ sym (old_is h))
      (λ h.
      ap given (end_passed h)
      ∙ cases (at_quota s d)
      (λ full. given_full lanes (omega arith) (at_quota_lem ∙ full) ∙ sym (full_is h full))
      (λ below.
      below_or_not g b.frames
      (λ l.
      given_new lanes (omega arith) (at_quota_lem ∙ below) (omega (arith, frame_for_lem))
      ∙ ap (λ (f : ℕ). record { reply = Answers (New f); moves = []; next = written s f w }) frame_for_lem
      ∙ sym (new_is h below l))
      (λ l. given_none lanes (omega arith) (at_quota_lem ∙ below) (omega (arith, frame_for_lem)) ∙ sym (none_is h below l))))

  -- the first part xs, the words bs of the block under way, and the words ys after them
  pub one_pass :
      (xs bs ys : List ℕ)
      → t ≡ xs ++ (bs ++ ys)
      → let k = after d p xs in
      fault s d p ≡ record { reply = answer b d k (bs ++ ys); moves = []; next = state_of b (with_word b.frames (taker b d k (bs ++ ys)) w t) }
  unfolding after answer taker
  one_pass xs bs ys e = sym whole_pass ∙ ap given (ap (after d p) e ∙ take_append (start w (word_of d 0)) xs (bs ++ ys))

  -- the outcome, by what is known in the end
  pub old_frame : 0 < end.mapped → fault s d p ≡ record { reply = Answers (Old (end.mapped - 1)); moves = []; next = s }
  old_frame l = sym whole_pass ∙ given_old end l

  pub full_quota : end.mapped ≤ 0 → at_quota_by b d end ≡ true → fault s d p ≡ record { reply = Refuses 28 0; moves = []; next = s }
  full_quota h full = sym whole_pass ∙ given_full end h full

  pub new_frame : end.mapped ≤ 0 → at_quota_by b d end ≡ false → frame_for b d end < b.frames → fault s d p ≡ record { reply = Answers (New (frame_for b d end)); moves = []; next = written s (frame_for b d end) w }
  new_frame h below l = sym whole_pass ∙ given_new end h below l

  pub no_frame : end.mapped ≤ 0 → at_quota_by b d end ≡ false → b.frames ≤ frame_for b d end → fault s d p ≡ record { reply = Refuses 12 0; moves = []; next = s }
  no_frame h below l = sym whole_pass ∙ given_none end h below l

-- the page's frame is one of those taken in
pub end_below : (d p : ℕ) (xs : List ℕ) → (after d p xs).mapped ≤ length xs
unfolding after start
end_below d p xs =
    let r = sound (word_of d p) (word_of d 0) 0 xs zeros zeros zeros_length zeros_length (zeros_within 0) (zeros_within 0) in
    omega (arith, r.mapped_below)

-- Lists of numbers that fit in 16 bits
over_either : (xs ys : List ℕ) → any_of (ltb 65535) xs ≡ false → any_of (ltb 65535) ys ≡ false → any_of (ltb 65535) (xs ++ ys) ≡ false
over_either [] ys e h = h
over_either (x ∷ xs) ys e h = let r = neither (ltb 65535 x) (any_of (ltb 65535) xs) e in rw r.0 (over_either xs ys r.1 h)

over_lanes : (m : ℕ) (l : List ℕ) → m ≤ 65535 → LanesAtMost m l → any_of (ltb 65535) l ≡ false
over_lanes m [] small h = refl
over_lanes m (x ∷ xs) small h = rw (le-ltb 65535 x (omega (arith, h 0))) (over_lanes m xs small (λ i. h (suc i)))

-- a set of at most sixteen colours
sixteen_bits : (n : ℕ) → is_colour_count n ≡ true → 2 ^ n ≤ 65536
unfolding is_colour_count
sixteen_bits n e = member_has (λ (m : ℕ). 2 ^ m ≤ 65536) n (1 ∷ 2 ∷ 4 ∷ 8 ∷ 16 ∷ []) (omega arith, (omega arith, (omega arith, (omega arith, (omega arith, tt))))) e

-- eight numbers, 32 lanes, and the words of a block of sixteen
module _ (b : Board) (d p words : ℕ) (ok : passes (page_tests b words d p) ≡ true) where
  active_small : active_set b d ≤ 65535
  active_small =
      let a = (ten_accepted b words d p ok).0 in
      let set = colour_set_lem b.colours (grant b d) (not-false _ (a.passed.grants d a.caller)) in
      let part : bit_and (active_set b d) (grant b d) ≡ active_set b d = eqb-true _ _ (not-false _ (neither (eqb (active_set b d) 0) _ (a.passed.actives d a.caller)).1) in
      omega (arith, set.below, part, and_le_r (active_set b d) (grant b d), sixteen_bits b.colours a.passed.count)

  pub few_numbers :
      (xs bs : List ℕ) → length xs ≤ words → length bs ≤ 16 → any_of (ltb 65535) bs ≡ false
      → (length (all_numbers b d (after d p xs) bs) ≤ 64) × (any_of (ltb 65535) (all_numbers b d (after d p xs) bs) ≡ false)
  unfolding all_numbers tally_numbers after start
  few_numbers xs bs xl bl small =
      let k : Tally = after d p xs in
      let a = ten_accepted b words d p ok in
      let r = sound (word_of d p) (word_of d 0) 0 xs zeros zeros zeros_length zeros_length (zeros_within 0) (zeros_within 0) in
      let m : ℕ = 0 + length xs in
      let l : m ≤ 65535 = omega (arith, a.0.bounds) in (
        omega (arith, length-append k.held (k.free ++ bs), length-append k.free bs, r.held_lanes, r.free_lanes),
        rw (
          le-ltb 65535 b.colours (omega (arith, count_range b.colours a.0.passed.count)),
          le-ltb 65535 b.frames (omega (arith, a.0.bounds)),
          le-ltb 65535 (active_set b d) active_small,
          le-ltb 65535 (quota b d) (omega (arith, quota_range (quota b d) (quotas_split b a.0.quotas d a.0.caller))),
          le-ltb 65535 k.word (omega (arith, r.same_word, a.0.bounds, a.0.caller, a.1)),
          le-ltb 65535 k.first (omega (arith, r.same_first, a.0.bounds, a.0.caller)),
          le-ltb 65535 k.taken (omega (arith, r.taken_below)),
          le-ltb 65535 k.mapped (omega (arith, r.mapped_below)),
        )
            (over_either k.held (k.free ++ bs) (over_lanes m k.held l r.held_below) (over_either k.free bs (over_lanes m k.free l r.free_below) small)),
      )
