-- Loops over sixteen lanes: one that sums up the lanes that pass a test, and one that seeks the lowest frame that stands in the lanes of a colour. What each
-- has still to find is settled by the lanes from the one it has come to.
use Rattle.std.proofs.Common.{◌≡◌, ℕ, ◌+◌, ◌*◌, ◌%◌, ◌<◌, ◌≤◌, Bool, true, false, ◌&&◌, eqb, List, get_or, min, refl, sym, ap, ◌∙◌, zero-le, lt_trans, le_refl, lt_irrefl, mod-eq_of_lt, arith, eq-eqb, ne_eqb, eqb-true}
use native.Mathlib.Nat.{add-mod_right}
use Rattle.lists.specs.Range.{total}
use Rattle.lists.proofs.CaseSplits.{cases, below_or_not, and_both}
use Rattle.lists.proofs.PassingNumbers.{ahead, ahead_start, ahead_take, ahead_skip, ahead_end}
use Rattle.lists.proofs.Searches.{ahead_past, none_any, none_lowest, sought_is}
use Rattle.lists.proofs.FewestNumber.{some_any}
use Rattle.tally.specs.Lanes.{sum_lanes, in_lanes, least_lane}
use Rattle.calls.specs.OnePass.{is_lane_of, held_by, free_by}
use Rattle.choice.proofs.ColourSteps.{next_of_colour, ahead_step}

-- a sum that has come to a lane
module _ (q : ℕ → Bool) (lanes : List ℕ) where
  abbrev entry : ℕ → ℕ
  entry i = get_or lanes i 0

  pub record LaneSum (lane sum : ℕ) : Type 0 where
    pub few : sum ≤ 65535 * lane
    pub rest : sum_lanes q lanes ≡ sum + total entry (ahead q lane 16)

  pub sum_start : LaneSum 0 0
  unfolding sum_lanes
  sum_start = record { few = omega arith; rest = ap (total entry) (ahead_start q 16) ∙ omega arith }

  pub sum_add : {lane sum : ℕ} → LaneSum lane sum → lane < 16 → entry lane ≤ 65535 → q lane ≡ true → LaneSum (lane + 1) (sum + entry lane)
  unfolding total
  sum_add s l small e = record { few = omega (arith, s.few); rest = omega (arith, s.rest, ap (total entry) (ahead_take q _ 16 l e)) }

  pub sum_skip : {lane sum : ℕ} → LaneSum lane sum → lane < 16 → q lane ≡ false → LaneSum (lane + 1) sum
  sum_skip s l e = record { few = omega (arith, s.few); rest = omega (arith, s.rest, ap (total entry) (ahead_skip q _ 16 l e)) }

  pub sum_end : {lane sum : ℕ} → LaneSum lane sum → 16 ≤ lane → sum ≡ sum_lanes q lanes
  unfolding total
  sum_end s l = omega (arith, s.rest, ap (total entry) (ahead_end q _ 16 l))

  -- no lane ahead passes
  pub sum_rest : {lane sum : ℕ} → LaneSum lane sum → lane ≤ 16 → ((i : ℕ) → lane ≤ i → q i ≡ false) → sum ≡ sum_lanes q lanes
  unfolding total
  sum_rest {lane} s l none =
      omega (arith, s.rest, ap (total entry) (ahead_past q lane 16 16 l (le_refl 16) (λ k a b. none k a) ∙ ahead_end q 16 16 (le_refl 16)))

-- over the lanes of colour x, of n
pub record ColourSum (n x : ℕ) (lanes : List ℕ) (lane sum : ℕ) : Type 0 where
  pub aligned : lane % n ≡ x
  pub summing : LaneSum (is_lane_of n x) lanes lane sum

-- a search for the lowest frame, of m, that stands in them
pub record FrameSought (n x : ℕ) (lanes : List ℕ) (m lane least : ℕ) : Type 0 where
  pub aligned : lane % n ≡ x
  pub low : least ≤ m
  pub stands : least < m → in_lanes (is_lane_of n x) lanes least ≡ true
  pub before : (i : ℕ) → i < lane → i < 16 → i % n ≡ x → (f : ℕ) → f < m → get_or lanes i 0 ≡ f + 1 → least ≤ f

module _ (n x : ℕ) (lanes : List ℕ) (l : x < n) where
  some : 1 ≤ n
  some = omega arith

  abbrev mine : ℕ → Bool
  mine = is_lane_of n x

  only : (k : ℕ) → (k % n ≡ x → ⊥) → mine k ≡ false
  only k off = ne_eqb (k % n) x off

  -- no lane before the first has the colour
  before_first : (k : ℕ) → k < x → k % n ≡ x → ⊥
  before_first k h e = lt_irrefl k (omega (arith, h, e, mod-eq_of_lt (lt_trans h l)))

  pub colour_start : x ≤ 16 → ColourSum n x lanes x 0
  colour_start low =
      record {
        aligned = mod-eq_of_lt l;
        summing = record {
          few = omega arith;
          rest = (sum_start mine lanes).rest ∙ ap (λ (is : List ℕ). 0 + total (λ (i : ℕ). get_or lanes i 0) is) (ahead_past mine 0 x 16 zero-le low (λ k a b. only k (before_first k b)));
        };
      }

  pub colour_add : {lane sum : ℕ} → ColourSum n x lanes lane sum → lane < 16 → get_or lanes lane 0 ≤ 65535 → ColourSum n x lanes (lane + n) (sum + get_or lanes lane 0)
  colour_add {lane} {sum} s under small =
      let r = sum_add mine lanes s.summing under small (eq-eqb (lane % n) x s.aligned) in
      record {
        aligned = add-mod_right lane n ∙ s.aligned;
        summing = record {
          few = omega (arith, r.few);
          rest = r.rest ∙ ap (λ (is : List ℕ). sum + get_or lanes lane 0 + total (λ (i : ℕ). get_or lanes i 0) is) (ahead_step mine n x some only lane 16 s.aligned under);
        };
      }

  pub colour_end : {lane sum : ℕ} → ColourSum n x lanes lane sum → 16 ≤ lane → sum ≡ held_by n lanes x
  unfolding held_by
  colour_end s over = sum_end mine lanes s.summing over

  -- the lowest frame, of m, that stands in the lanes before
  module _ (m : ℕ) where
    pub frame_start : FrameSought n x lanes m x m
    frame_start =
        record {
          aligned = mod-eq_of_lt l;
          low = le_refl m;
          stands = λ h. absurd (lt_irrefl m h);
          before = λ i h k e. absurd (before_first i h e);
        }

    -- a frame that stands in the lane come to
    here : {lane : ℕ} (f : ℕ) → lane < 16 → lane % n ≡ x → get_or lanes lane 0 ≡ f + 1 → in_lanes mine lanes f ≡ true
    unfolding in_lanes
    here {lane} f under e is =
        some_any (λ (i : ℕ). mine i && eqb (get_or lanes i 0) (f + 1)) 16 lane under (rw (eq-eqb (lane % n) x e, eq-eqb (get_or lanes lane 0) (f + 1) is))

    further : {lane least : ℕ} (next : ℕ) → FrameSought n x lanes m lane least → next ≤ least → ((f : ℕ) → f < m → get_or lanes lane 0 ≡ f + 1 → next ≤ f)
        → (i : ℕ) → i < lane + n → i < 16 → i % n ≡ x → (f : ℕ) → f < m → get_or lanes i 0 ≡ f + 1 → next ≤ f
    further {lane} next s le own i h k e f fl is =
        below_or_not i lane
        (λ b. omega (arith, le, s.before i b k e f fl is))
        (λ b. own f fl (rw (next_of_colour n lane i some b h (e ∙ sym s.aligned)) at is))

    module _ {lane least : ℕ} (s : FrameSought n x lanes m lane least) (under : lane < 16) (small : m < 18446744073709551616) (v frame : ℕ) (is : get_or lanes lane 0 ≡ v) (wraps : (frame + 1) % 18446744073709551616 ≡ v) (word : frame < 18446744073709551616) where
      -- it is lower than all before
      pub frame_lower : frame < least → FrameSought n x lanes m (lane + n) frame
      frame_lower h =
          let le : frame < m = omega (arith, h, s.low) in
          let one : v ≡ frame + 1 = omega (arith, wraps, le, small) in
          record {
            aligned = add-mod_right lane n ∙ s.aligned;
            low = omega (arith, le);
            stands = λ o. here frame under s.aligned (is ∙ one);
            before = further frame s (omega (arith, h)) (λ f fl e. omega (arith, is, e, one));
          }

      -- it is not
      pub frame_higher : least ≤ frame → FrameSought n x lanes m (lane + n) least
      frame_higher h =
          record {
            aligned = add-mod_right lane n ∙ s.aligned;
            low = s.low;
            stands = s.stands;
            before = further least s (le_refl least) (λ f fl e. omega (arith, is, e, wraps, word, fl, small, h));
          }

    -- the lower of the two, where the lane's number less one is taken round
    pub frame_min :
        {lane least : ℕ} (s : FrameSought n x lanes m lane least) (under : lane < 16) (small : m < 18446744073709551616) → get_or lanes lane 0 ≤ 65535
        → {r : ℕ} → r ≡ min least ((get_or lanes lane 0 + 18446744073709551615) % 18446744073709551616) → FrameSought n x lanes m (lane + n) r
    frame_min {lane} {least} s under small word {r} is =
        let frame : ℕ = (get_or lanes lane 0 + 18446744073709551615) % 18446744073709551616 in
        below_or_not frame least
        (λ h. let e : r ≡ frame = omega (arith, is, h) in rw e (frame_lower s under small (get_or lanes lane 0) frame refl (omega (arith, word)) (omega arith) h))
        (λ h. let e : r ≡ least = omega (arith, is, h) in rw e (frame_higher s under small (get_or lanes lane 0) frame refl (omega (arith, word)) (omega arith) h))

    pub frame_end : {lane least : ℕ} → FrameSought n x lanes m lane least → 16 ≤ lane → least ≡ free_by n m lanes x
    unfolding free_by least_lane in_lanes
    frame_end {lane} {least} s over =
        below_or_not least m
        (λ h. sym (sought_is (in_lanes mine lanes) 0 m least zero-le h (s.stands h) (λ f a b. none f (omega (arith, b, h)) b)))
        (λ h.
        let all : least ≡ m = omega (arith, h, s.low) in
        all ∙ sym (none_lowest (in_lanes mine lanes) m (λ f fl. none f fl (omega (arith, all, fl)))))
      where
        none : (f : ℕ) → f < m → f < least → in_lanes mine lanes f ≡ false
        none f fl h =
            none_any _ 16 (λ i il.
            cases (mine i && eqb (get_or lanes i 0) (f + 1))
            (λ o.
            let both = and_both (mine i) (eqb (get_or lanes i 0) (f + 1)) o in
            absurd (lt_irrefl f (omega (arith, h, s.before i (omega (arith, il, over)) il (eqb-true (i % n) x both.0) f fl (eqb-true _ _ both.1)))))
            (λ o. o))
