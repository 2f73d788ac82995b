-- The frame of the least key: it is the one that the lanes give by definition, where the keys fit into 16 bits; and how the code comes to it.
use Rattle.std.proofs.Common.{◌≡◌, ℕ, ◌%◌, ◌<◌, ◌≤◌, true, ltb, List, get_or, Option, None, Some, sym, refl, if◌then◌else◌, ap, ◌∙◌, le_refl, lt_irrefl, mod-lt, arith, le-ltb, lt-ltb, ne_eqb}
use mathlib.Core.Bool.{and-false}
use Rattle.lists.proofs.CaseSplits.{cases, below_or_not, and_both}
use Rattle.lists.proofs.Searches.{none_any, none_lowest}
use Rattle.colours.specs.Sets.{has}
use Rattle.tally.specs.Lanes.{in_lanes, least_lane}
use Rattle.calls.specs.OnePass.{held_by, free_by, colour_by, frame_by}
use Rattle.choice.specs.Keys.{full_key, key_of, FreesBy, KeysFit, KeysBy, LeastOf, LeastKey, ByLeastKey}
use Rattle.choice.proofs.Keys.{least_by, below_full, fewest_key, no_key}

module _ (n m c : ℕ) (held free : List ℕ) where
  -- by the arrays of the code
  module _ (frees keys : List ℕ) (are : FreesBy n m c free frees) (made : KeysBy n m c held frees keys) (r : ℕ) (low : LeastKey keys r) where
    keys_are : (x : ℕ) → x < 16 → get_or keys x 0 ≡ key_of n m c (held_by n held) (free_by n m free) x
    unfolding key_of
    keys_are x l = made x l ∙ below_or_not x n (λ h. cases (has c x) (λ e. rw (are x h e)) (λ e. rw (e, and-false (ltb x n)))) (λ h. rw (le-ltb x n h))

    abbrev least_is : LeastOf (key_of n m c (held_by n held) (free_by n m free)) r
    least_is = least_by keys (key_of n m c (held_by n held) (free_by n m free)) keys_are r low

    pub by_least : r < full_key → ByLeastKey n m c held free (Some (get_or frees (r % 16) 0))
    by_least h =
        let t = below_full n m c (held_by n held) (free_by n m free) r least_is h in
        record {
          key = r;
          low = least_is;
          is = rw (lt-ltb r full_key h) (ap Some (rw t.colour (are low.colour t.below (and_both (has c low.colour) _ t.takes_it).0)));
        }

    pub by_none : full_key ≤ r → ByLeastKey n m c held free None
    by_none h = record { key = r; low = least_is; is = rw (le-ltb r full_key h) refl }

  -- by definition
  module _ (some : 1 ≤ n) (few : n ≤ 16) (fit : KeysFit n m (held_by n held) (free_by n m free) c) where
    -- no lane has colour n
    none_of_it : free_by n m free n ≡ m
    unfolding free_by least_lane in_lanes
    none_of_it = none_lowest _ m (λ f l. none_any _ 16 (λ i h. rw (ne_eqb (i % n) n (λ z. lt_irrefl n (omega (arith, z, mod-lt i {m = n} some))))))

    pub chosen_is : (r : Option ℕ) → ByLeastKey n m c held free r → r ≡ (let f = frame_by n m c held free in if ltb f m then Some f else None)
    unfolding frame_by colour_by
    chosen_is r by =
        below_or_not by.key full_key
        (λ h.
        let t = below_full n m c (held_by n held) (free_by n m free) by.key by.low h in
        let fits : ltb (free_by n m free (by.key % 16)) m ≡ true = rw t.colour (and_both (has c by.low.colour) _ t.takes_it).1 in
        let same : colour_by n m c held free ≡ by.key % 16 = fewest_key n m c (held_by n held) (free_by n m free) few fit by.key by.low h ∙ sym t.colour in
        by.is ∙ rw (lt-ltb by.key full_key h, same, fits) refl)
        (λ h.
        let none : colour_by n m c held free ≡ n = no_key n m c (held_by n held) (free_by n m free) few fit by.key by.low h in
        by.is ∙ rw (le-ltb by.key full_key h, none, none_of_it, le-ltb m m (le_refl m)) refl)
