-- What is kept after words that are taken in, said at once: the lowest of them that is the page's word settles it, and else the lanes have counted and
-- noted all of them. And the laws of the lanes, which go on from one list of words to the next.
use Rattle.std.specs.Prelude.{if◌then◌else◌}
use Prim.Native.Nat.{ℕ, zero, suc, ◌+◌, ◌%◌, ◌<◌, ◌≤◌}
use native.Mathlib.Nat.{le_refl, lt_irrefl, add-zero}
use native.Mathlib.Numerals.{add-one}
use native.Mathlib.Omega.{arith}
use mathlib.Core.Bool.{Bool, true, false, ◌&&◌, true≢false}
use mathlib.Core.List.{List, [], ◌∷◌, ◌++◌}
use mathlib.Core.Path.{◌≡◌, refl, sym, ap, ◌∙◌}
use lib.Dec.{eqb}
use lib.ListN.{length, get_or, set, drop, length-set, drop_of_length-le, replicate}
use lib.Seq.{drop-cons, set_out, get_or-set_same, get_or-set_other}
use borrow.Author.Tests.{lt-ltb, eqb-true, eqb-false, eq-eqb, ne_eqb}
use Rattle.lists.specs.Range.{lowest, lowest_from}
use Rattle.lists.proofs.CaseSplits.{cases, below_or_not, and_both}
use Rattle.lists.proofs.RangeLoops.{sought_hit, sought_miss, sought_end}
use Rattle.tally.specs.declared.Tally.{Tally}
use Rattle.tally.specs.Tally.{is_own, zeros, LanesAtMost, count_in, note_in, count_all, note_all, so_far, found, take_in, take_all}

-- an entry of a list after one of them is written
pub at_entry : (P : ℕ → Type 0) (l : List ℕ) (j v i : ℕ) → (i ≡ j → P v) → P (get_or l i 0) → P (get_or (set l j v) i 0)
at_entry P l j v i here there =
    cases (eqb i j)
    (λ e.
    let q = eqb-true i j e in
    below_or_not j (length l)
    (λ h. rw (q, get_or-set_same l j v 0 h) (here q))
    (λ h. rw (set_out l j v h) there))
    (λ e. rw (get_or-set_other l j i v 0 (eqb-false i j e)) there)

-- The lanes. One more word of a list:
module _ (p : ℕ → Bool) where
  pub count_append : (lanes : List ℕ) (f : ℕ) (xs ys : List ℕ) → count_all p lanes f (xs ++ ys) ≡ count_all p (count_all p lanes f xs) (f + length xs) ys
  unfolding count_all
  count_append lanes f [] ys = rw (add-zero f) refl
  count_append lanes f (x ∷ xs) ys =
      let next : f + 1 + length xs ≡ f + suc (length xs) = omega arith in
      count_append (count_in p lanes f x) (f + 1) xs ys ∙ ap (λ (g : ℕ). count_all p (count_all p (count_in p lanes f x) (f + 1) xs) g ys) next

  pub count_next : (lanes : List ℕ) (f : ℕ) (xs : List ℕ) (i : ℕ) → i < length xs
      → count_all p lanes (f + i) (drop i xs) ≡ count_all p (count_in p lanes (f + i) (get_or xs i 0)) (f + (i + 1)) (drop (i + 1) xs)
  unfolding count_all
  count_next lanes f xs i l =
      let next : f + i + 1 ≡ f + suc i = omega arith in
      rw (drop-cons xs i 0 l, add-one i) (ap (λ (g : ℕ). count_all p (count_in p lanes (f + i) (get_or xs i 0)) g (drop (suc i) xs)) next)

  pub count_length : (lanes : List ℕ) (f : ℕ) (xs : List ℕ) → length (count_all p lanes f xs) ≡ length lanes
  unfolding count_all count_in
  count_length lanes f [] = refl
  count_length lanes f (x ∷ xs) = count_length (count_in p lanes f x) (f + 1) xs ∙ length-set lanes (f % 16) _

  -- a frame with the same lane counts alike
  pub count_shift : (lanes : List ℕ) (f g : ℕ) (xs : List ℕ) → f % 16 ≡ g % 16 → count_all p lanes f xs ≡ count_all p lanes g xs
  unfolding count_all count_in
  count_shift lanes f g [] e = refl
  count_shift lanes f g (x ∷ xs) e = rw e (count_shift (count_in p lanes g x) (f + 1) (g + 1) xs (omega arith))

  one_within : (m : ℕ) (lanes : List ℕ) (f x : ℕ) → LanesAtMost m lanes → LanesAtMost (m + 1) (count_in p lanes f x)
  unfolding count_in
  one_within m lanes f x h i =
      at_entry (λ (v : ℕ). v ≤ m + 1) lanes (f % 16) (get_or lanes (f % 16) 0 + (if p x then 1 else 0)) i
      (λ e. cases (p x) (λ q. rw q (omega (arith, h (f % 16)))) (λ q. rw q (omega (arith, h (f % 16)))))
      (omega (arith, h i))

  pub count_within : (m : ℕ) (lanes : List ℕ) (f : ℕ) (xs : List ℕ) → LanesAtMost m lanes → LanesAtMost (m + length xs) (count_all p lanes f xs)
  unfolding count_all
  count_within m lanes f [] h i = omega (arith, h i)
  count_within m lanes f (x ∷ xs) h i = omega (arith, count_within (m + 1) (count_in p lanes f x) (f + 1) xs (one_within m lanes f x h) i)

pub note_append : (free : List ℕ) (f : ℕ) (xs ys : List ℕ) → note_all free f (xs ++ ys) ≡ note_all (note_all free f xs) (f + length xs) ys
unfolding note_all
note_append free f [] ys = rw (add-zero f) refl
note_append free f (x ∷ xs) ys =
    let next : f + 1 + length xs ≡ f + suc (length xs) = omega arith in
    note_append (note_in free f x) (f + 1) xs ys ∙ ap (λ (g : ℕ). note_all (note_all (note_in free f x) (f + 1) xs) g ys) next

pub note_next : (free : List ℕ) (f : ℕ) (xs : List ℕ) (i : ℕ) → i < length xs
    → note_all free (f + i) (drop i xs) ≡ note_all (note_in free (f + i) (get_or xs i 0)) (f + (i + 1)) (drop (i + 1) xs)
unfolding note_all
note_next free f xs i l =
    let next : f + i + 1 ≡ f + suc i = omega arith in
    rw (drop-cons xs i 0 l, add-one i) (ap (λ (g : ℕ). note_all (note_in free (f + i) (get_or xs i 0)) g (drop (suc i) xs)) next)

-- nothing is noted of a frame that is held, or whose lane has one
pub not_noted : (free : List ℕ) (f x : ℕ) → (eqb x 0 && eqb (get_or free (f % 16) 0) 0) ≡ false → note_in free f x ≡ free
unfolding note_in
not_noted free f x e =
    cases (eqb x 0)
    (λ z. cases (eqb (get_or free (f % 16) 0) 0) (λ o. absurd (true≢false (sym (rw (z, o)) ∙ e))) (λ o. simp (z, o)))
    (λ z. simp z)

pub noted : (free : List ℕ) (f x : ℕ) → (eqb x 0 && eqb (get_or free (f % 16) 0) 0) ≡ true → note_in free f x ≡ set free (f % 16) (f + 1)
unfolding note_in
noted free f x e = let o = and_both (eqb x 0) (eqb (get_or free (f % 16) 0) 0) e in simp (o.0, o.1)

pub note_length : (free : List ℕ) (f : ℕ) (xs : List ℕ) → length (note_all free f xs) ≡ length free
unfolding note_all
note_length free f [] = refl
note_length free f (x ∷ xs) = note_length (note_in free f x) (f + 1) xs ∙ one
  where
    one : length (note_in free f x) ≡ length free
    one =
        cases (eqb x 0 && eqb (get_or free (f % 16) 0) 0)
        (λ e. ap length (noted free f x e) ∙ length-set free (f % 16) (f + 1))
        (λ e. ap length (not_noted free f x e))

-- every frame noted is among those passed
pub note_within : (free : List ℕ) (f : ℕ) (xs : List ℕ) → LanesAtMost f free → LanesAtMost (f + length xs) (note_all free f xs)
unfolding note_all
note_within free f [] h i = omega (arith, h i)
note_within free f (x ∷ xs) h i = omega (arith, note_within (note_in free f x) (f + 1) xs one i)
  where
    one : LanesAtMost (f + 1) (note_in free f x)
    one j =
        cases (eqb x 0 && eqb (get_or free (f % 16) 0) 0)
        (λ e. rw (noted free f x e) (at_entry (λ (v : ℕ). v ≤ f + 1) free (f % 16) (f + 1) j (λ q. le_refl (f + 1)) (omega (arith, h j))))
        (λ e. rw (not_noted free f x e) (omega (arith, h j)))

-- no frame of a block is noted
pub note_quiet : (free : List ℕ) (f : ℕ) (xs : List ℕ) → ((i : ℕ) → i < length xs → (eqb (get_or xs i 0) 0 && eqb (get_or free ((f + i) % 16) 0) 0) ≡ false) → note_all free f xs ≡ free
unfolding note_all
note_quiet free f xs none = let same : f ≡ f + 0 = omega arith in ap (λ (g : ℕ). note_all free g xs) same ∙ go (length xs) 0 (omega arith)
  where
    go : (r i : ℕ) → i + r ≡ length xs → note_all free (f + i) (drop i xs) ≡ free
    go zero i e = let all : length xs ≤ i = omega arith in rw (drop_of_length-le xs all)
    go (suc r) i e =
        note_next free f xs i (omega arith)
        ∙ ap (λ (l : List ℕ). note_all l (f + (i + 1)) (drop (i + 1) xs)) (not_noted free (f + i) (get_or xs i 0) (none i (omega arith)))
        ∙ go r (i + 1) (omega arith)

-- nothing was counted or noted yet
pub zeros_length : length zeros ≡ 16
unfolding zeros
zeros_length = refl

pub no_entry : (i : ℕ) → get_or zeros i 0 ≡ 0
unfolding zeros
no_entry i = go 16 i
  where
    go : (n i : ℕ) → get_or {A = ℕ} (replicate {A = ℕ} n 0) i 0 ≡ 0
    go zero i = refl
    go (suc n) zero = refl
    go (suc n) (suc i) = go n i

pub zeros_within : (m : ℕ) → LanesAtMost m zeros
zeros_within m i = omega (arith, no_entry i)

-- Nothing more is taken in once the page's frame is known
pub known_stays : (k : Tally) (xs : List ℕ) → 0 < k.mapped → take_all k xs ≡ k
unfolding take_all take_in
known_stays k [] h = refl
known_stays k (x ∷ xs) h = simp (lt-ltb 0 k.mapped h) (known_stays k xs h)

-- words taken in one list after another
pub take_append : (k : Tally) (xs ys : List ℕ) → take_all k (xs ++ ys) ≡ take_all (take_all k xs) ys
unfolding take_all
take_append k [] ys = refl
take_append k (x ∷ xs) ys = take_append (take_in k x) xs ys

-- the words xs of the frames from a on, in a fault for word w of a domain
module _ (w first a : ℕ) (xs : List ℕ) where
  abbrev n : ℕ
  n = length xs

  abbrev pub is_word : ℕ → Bool
  is_word i = eqb (get_or xs i 0) w

  -- the cases of taking in a word
  module _ (held free : List ℕ) (f x : ℕ) where
    by_word : eqb x w ≡ true → take_in (so_far w first held free f) x ≡ found w first (f + 1)
    unfolding take_in
    by_word e = let same = eqb-true x w e in simp (eq-eqb x w same, eq-eqb w x (sym same))

    by_other : eqb x w ≡ false → take_in (so_far w first held free f) x ≡ so_far w first (count_in (is_own first) held f x) (note_in free f x) (f + 1)
    unfolding take_in
    by_other e = simp (e, ne_eqb w x (λ same. eqb-false x w e (sym same)))

  one_more : (i : ℕ) (k : Tally) → i < n → take_all k (drop i xs) ≡ take_all (take_in k (get_or xs i 0)) (drop (i + 1) xs)
  unfolding take_all
  one_more i k l = rw (drop-cons xs i 0 l, add-one i)

  -- the words from i on, with what is kept before them
  come : (r i : ℕ) (held free : List ℕ) → i + r ≡ n → lowest_from is_word i n < n → take_all (so_far w first held free (a + i)) (drop i xs) ≡ found w first (a + lowest_from is_word i n + 1)
  come zero i held free e h = absurd (lt_irrefl n (omega (arith, sought_end is_word i n (omega arith))))
  come (suc r) i held free e h =
      let l : i < n = omega arith in
      let next : a + i + 1 ≡ a + (i + 1) = omega arith in
      one_more i (so_far w first held free (a + i)) l
      ∙ cases (is_word i)
      (λ q.
      rw (by_word held free (a + i) (get_or xs i 0) q, sought_hit is_word i n l q)
      (known_stays (found w first (a + i + 1)) (drop (i + 1) xs) (omega arith)))
      (λ q.
      rw (by_other held free (a + i) (get_or xs i 0) q, sought_miss is_word i n l q, next)
      (come r (i + 1) _ _ (omega arith) (rw (sought_miss is_word i n l q) at h)))

  passed : (r i : ℕ) (held free : List ℕ) → i + r ≡ n → n ≤ lowest_from is_word i n → take_all (so_far w first held free (a + i)) (drop i xs) ≡ so_far w first (count_all (is_own first) held (a + i) (drop i xs)) (note_all free (a + i) (drop i xs)) (a + n)
  unfolding take_all count_all note_all
  passed zero i held free e h =
      let all : n ≤ i = omega arith in
      let same : a + i ≡ a + n = omega arith in
      rw (drop_of_length-le xs all, same) refl
  passed (suc r) i held free e h =
      let l : i < n = omega arith in
      let next : a + i + 1 ≡ a + (i + 1) = omega arith in
      one_more i (so_far w first held free (a + i)) l
      ∙ cases (is_word i)
      (λ q. absurd (lt_irrefl i (omega (arith, sought_hit is_word i n l q))))
      (λ q.
      rw (by_other held free (a + i) (get_or xs i 0) q, next, count_next (is_own first) held a xs i l, note_next free a xs i l)
      (passed r (i + 1) _ _ (omega arith) (rw (sought_miss is_word i n l q) at h)))

  -- the page's word has come, at the lowest of them that is it
  pub has_come : (held free : List ℕ) → lowest is_word n < n → take_all (so_far w first held free a) xs ≡ found w first (a + lowest is_word n + 1)
  has_come held free h = let same : a ≡ a + 0 = omega arith in ap (λ (f : ℕ). take_all (so_far w first held free f) xs) same ∙ come n 0 held free (omega arith) h

  -- or it has not
  pub not_come : (held free : List ℕ) → n ≤ lowest is_word n → take_all (so_far w first held free a) xs ≡ so_far w first (count_all (is_own first) held a xs) (note_all free a xs) (a + n)
  not_come held free h =
      let same : a ≡ a + 0 = omega arith in
      ap (λ (f : ℕ). take_all (so_far w first held free f) xs) same
      ∙ passed n 0 held free (omega arith) h
      ∙ ap (λ (f : ℕ). so_far w first (count_all (is_own first) held f xs) (note_all free f xs) (a + n)) (sym same)

  -- the frames known are among those passed, the words sought stay, and there are sixteen lanes of each kind, none above the frames passed
  pub record Sound (k : Tally) : Type 0 where
    pub same_word : k.word ≡ w
    pub same_first : k.first ≡ first
    pub taken_below : k.taken ≤ a + n
    pub mapped_below : k.mapped ≤ a + n
    pub held_lanes : length k.held ≡ 16
    pub free_lanes : length k.free ≡ 16
    pub held_below : LanesAtMost (a + n) k.held
    pub free_below : LanesAtMost (a + n) k.free

  pub sound : (held free : List ℕ) → length held ≡ 16 → length free ≡ 16 → LanesAtMost a held → LanesAtMost a free → Sound (take_all (so_far w first held free a) xs)
  sound held free hl fl hw fw =
      below_or_not (lowest is_word n) n
      (λ h.
      rw (has_come held free h)
      (record {
        same_word = refl;
        same_first = refl;
        taken_below = omega arith;
        mapped_below = omega arith;
        held_lanes = zeros_length;
        free_lanes = zeros_length;
        held_below = zeros_within (a + n);
        free_below = zeros_within (a + n);
      }))
      (λ h.
      rw (not_come held free h)
      (record {
        same_word = refl;
        same_first = refl;
        taken_below = le_refl (a + n);
        mapped_below = omega arith;
        held_lanes = count_length (is_own first) held a xs ∙ hl;
        free_lanes = note_length free a xs ∙ fl;
        held_below = count_within (is_own first) a held a xs hw;
        free_below = note_within free a xs fw;
      }))
