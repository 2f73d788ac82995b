-- What sixteen lanes say of the frames of those lanes that pass a test, as the lanes of a colour and of a set do.
use Rattle.std.specs.Prelude.{ℕ, ◌+◌, Bool, ◌&&◌, List, eqb, get_or}
use Rattle.lists.specs.Range.{upto, keep, any_of, lowest, total}

-- how many frames they have counted
unfoldable pub sum_lanes : (ℕ → Bool) → List ℕ → ℕ
sum_lanes q lanes = total (λ i. get_or lanes i 0) (keep q (upto 16))

-- frame f stands in one of them
unfoldable pub in_lanes : (ℕ → Bool) → List ℕ → ℕ → Bool
in_lanes q free f = any_of (λ i. q i && eqb (get_or free i 0) (f + 1)) (upto 16)

-- the lowest frame of m that does, or m where none does
unfoldable pub least_lane : (ℕ → Bool) → List ℕ → ℕ → ℕ
least_lane q free m = lowest (in_lanes q free) m
