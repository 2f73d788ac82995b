-- Numbers of colours up to 16: that of a board is itself, and its lanes are all sixteen.
use Rattle.std.proofs.Common.{◌≡◌, ℕ, ◌-◌, ◌%◌, ◌≤◌, true, ltb, List, [], ◌∷◌, refl, arith, le-ltb, lt-ltb}
use lib.Bits.{and_le_r}
use Rattle.lists.specs.Range.{from, keep}
use Rattle.lists.proofs.CaseSplits.{below_or_not}
use Rattle.lists.proofs.Members.{member_has}
use Rattle.colours.specs.Cache.{is_colour_count}
use Rattle.colours.proofs.Ranges.{count_range}
use Rattle.tally.specs.Lanes.{sum_lanes}
use Rattle.choice.specs.LaneSums.{lanes_of}
use Rattle.choice.specs.Keys.{as_count}

pub count_within : (n : ℕ) → as_count n ≤ 16
unfolding as_count
count_within n = below_or_not n 17 (λ l. rw (lt-ltb n 17 l) (omega arith)) (λ h. rw (le-ltb n 17 h) (omega arith))

pub count_itself : (n : ℕ) → is_colour_count n ≡ true → as_count n ≡ n
unfolding as_count
count_itself n ok = rw (lt-ltb n 17 (omega (arith, count_range n ok)))

pub lanes_within : (n : ℕ) → lanes_of n ≤ 16
unfolding lanes_of
lanes_within n = and_le_r ((18446744073709551616 - n) % 18446744073709551616) 16

all_lanes : (n : ℕ) → is_colour_count n ≡ true → lanes_of n ≡ 16
unfolding is_colour_count lanes_of
all_lanes n ok = member_has (λ (m : ℕ). lanes_of m ≡ 16) n (1 ∷ 2 ∷ 4 ∷ 8 ∷ 16 ∷ []) (refl, (refl, (refl, (refl, (refl, tt))))) ok

pub sum_of_all : (n : ℕ) (lanes : List ℕ) → is_colour_count n ≡ true → sum_lanes (λ (i : ℕ). ltb i (lanes_of n)) lanes ≡ sum_lanes (λ (i : ℕ). true) lanes
unfolding sum_lanes keep from
sum_of_all n lanes ok = rw (all_lanes n ok) refl
