-- Lists that a loop writes from the front: one word more of what is to be written, and one more entry of a table.
use Prim.Native.Nat.{ℕ, zero, suc, ◌+◌, ◌<◌}
use native.Mathlib.Nat.{add-zero, zero-add, le_of_suc-le-suc, not-suc-le-zero}
use native.Mathlib.Numerals.{add-one}
use native.Mathlib.Omega.{arith}
use mathlib.Core.List.{List, [], ◌∷◌, ◌++◌, map}
use mathlib.Core.Path.{◌≡◌, refl, ap, ◌∙◌}
use lib.ListN.{length, get_or, take, drop, set}
use lib.Seq.{take-suc-set}
use Rattle.lists.specs.Range.{from, upto}

-- xs over the front of d, up to i
write_suc : (xs d : List ℕ) (i : ℕ) → i < length xs → i < length d → set (take i xs ++ drop i d) i (get_or xs i 0) ≡ take (suc i) xs ++ drop (suc i) d
write_suc [] d i l h = absurd (not-suc-le-zero l)
write_suc (x ∷ xs) [] i l h = absurd (not-suc-le-zero h)
write_suc (x ∷ xs) (y ∷ d) zero l h = refl
write_suc (x ∷ xs) (y ∷ d) (suc i) l h = ap (λ (t : List ℕ). x ∷ t) (write_suc xs d i (le_of_suc-le-suc l) (le_of_suc-le-suc h))

pub write_next : (xs d : List ℕ) (i : ℕ) → i < length xs → i < length d → set (take i xs ++ drop i d) i (get_or xs i 0) ≡ take (i + 1) xs ++ drop (i + 1) d
write_next xs d i l h = rw (add-one i) (write_suc xs d i l h)

-- a table of the n numbers from i on: its length, and its entries
pub length-table : (f : ℕ → ℕ) (n i : ℕ) → length (map f (from i n)) ≡ n
unfolding from
length-table f zero i = refl
length-table f (suc n) i = ap suc (length-table f n (suc i))

pub table_entry : (f : ℕ → ℕ) (n i k : ℕ) → k < n → get_or (map f (from i n)) k 0 ≡ f (i + k)
unfolding from
table_entry f zero i k h = absurd (not-suc-le-zero h)
table_entry f (suc n) i zero h = ap f (omega arith)
table_entry f (suc n) i (suc k) h = table_entry f n (suc i) k (le_of_suc-le-suc h) ∙ ap f (omega arith)

-- one entry more
map_from : (f : ℕ → ℕ) (n i : ℕ) → map f (from i (suc n)) ≡ map f (from i n) ++ (f (i + n) ∷ [])
unfolding from
map_from f zero i = rw (add-zero i)
map_from f (suc n) i =
    let same : suc i + n ≡ i + suc n = omega arith in
    ap (λ (t : List ℕ). f i ∷ t) (map_from f n (suc i) ∙ ap (λ (x : ℕ). map f (from (suc i) n) ++ (f x ∷ [])) same)

pub map_next : (f : ℕ → ℕ) (n : ℕ) → map f (upto (n + 1)) ≡ map f (upto n) ++ (f n ∷ [])
map_next f n = rw (add-one n) (map_from f n 0 ∙ ap (λ (x : ℕ). map f (upto n) ++ (f x ∷ [])) (zero-add n))

-- the front of a list after one word more is written
pub take_next : (l : List ℕ) (i a : ℕ) → i < length l → take (i + 1) (set l i a) ≡ take i l ++ (a ∷ [])
take_next l i a h = rw (add-one i) (take-suc-set l i a h)
