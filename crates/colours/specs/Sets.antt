-- Colour sets: document 01, numbers whose bit c stands for colour c. Their colours are ordered ascending, and the places counted from 0.
use Rattle.std.specs.Prelude.{ℕ, ◌-◌, ◌*◌, ◌/◌, ◌%◌, ◌^◌, Bool, not, ◌&&◌, List, eqb, length, get_or}
use Rattle.lists.specs.Range.{upto, keep}

-- s is a set of n colours, and not empty: it is not 0 and has no bit at n or above
unfoldable pub is_colour_set : ℕ → ℕ → Bool
is_colour_set n s = not (eqb s 0) && eqb (s / 2 ^ n) 0

-- colour c is in set s: bit c of s is 1
unfoldable pub has : ℕ → ℕ → Bool
has s c = eqb (s / 2 ^ c % 2) 1

-- the colours of s below n, ascending
unfoldable pub colours_below : ℕ → ℕ → List ℕ
colours_below n s = keep (has s) (upto n)

-- the colour at place j of s, of n colours in all (0 where s has no place j)
unfoldable pub colour_at : ℕ → ℕ → ℕ → ℕ
colour_at n s j = get_or (colours_below n s) j 0

-- the place of colour c in s: as many colours of s are below c
unfoldable pub place_of : ℕ → ℕ → ℕ
place_of s c = length (colours_below c s)

-- the set of so many consecutive colours, from a first one on
unfoldable pub consecutive : ℕ → ℕ → ℕ
consecutive first size = (2 ^ size - 1) * 2 ^ first
