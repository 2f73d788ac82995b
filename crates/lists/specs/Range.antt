-- The numbers of a range that pass a test: "lowest", "next" and "ascending" of document 01 are the head, the tail and the order of such a list.
use Rattle.std.specs.Prelude.{ℕ, zero, suc, ◌+◌, ◌-◌, Bool, true, false, not, ◌&&◌, ◌||◌, List, [], ◌∷◌, Option, None, Some, eqb, ltb, get_or, if◌then◌else◌}

-- n numbers from i on: i, i + 1, ..
unfoldable pub from : ℕ → ℕ → List ℕ
from i zero = []
from i (suc n) = i ∷ from (suc i) n

-- 0 .. n − 1
abbrev pub upto : ℕ → List ℕ
upto n = from 0 n

-- the members of a list that pass a test, in their order
unfoldable pub keep : (ℕ → Bool) → List ℕ → List ℕ
keep p [] = []
keep p (x ∷ xs) = let rest = keep p xs in if p x then x ∷ rest else rest

-- whether some member of a list passes a test
abbrev pub any_of : (ℕ → Bool) → List ℕ → Bool
any_of p [] = false
any_of p (x ∷ xs) = p x || any_of p xs

-- whether a list has a number at a place
abbrev pub is_at : List ℕ → ℕ → ℕ → Bool
is_at xs x i = eqb (get_or xs i 0) x

-- whether a list has no member
abbrev pub is_empty : List ℕ → Bool
is_empty [] = true
is_empty (x ∷ xs) = false

-- the first member of a list, or a number where it has none
abbrev pub head_or : ℕ → List ℕ → ℕ
head_or n [] = n
head_or n (x ∷ xs) = x

-- the lowest number from i on and below n that passes a test, or n where none does
unfoldable pub lowest_from : (ℕ → Bool) → ℕ → ℕ → ℕ
lowest_from p i n = head_or n (keep p (from i (n - i)))

-- the lowest number below n that passes
abbrev pub lowest : (ℕ → Bool) → ℕ → ℕ
lowest p n = lowest_from p 0 n

-- the lowest number below n that passes, if one does
unfoldable pub lowest_below : (ℕ → Bool) → ℕ → Option ℕ
lowest_below p n = let low = lowest p n in if ltb low n then Some low else None

-- the sum over the members of a list
unfoldable pub total : (ℕ → ℕ) → List ℕ → ℕ
total g [] = 0
total g (x ∷ xs) = g x + total g xs

-- x passes a test, and of the numbers below n that do none has fewer
unfoldable pub is_fewest : (ℕ → Bool) → (ℕ → ℕ) → ℕ → ℕ → Bool
is_fewest p count n x = p x && not (any_of (λ y. p y && ltb (count y) (count x)) (upto n))

-- the number below n that has the fewest among those that pass a test, the lowest on a tie, or n where none passes
unfoldable pub fewest : (ℕ → Bool) → (ℕ → ℕ) → ℕ → ℕ
fewest p count n = lowest (is_fewest p count n) n
