-- The numbers of a range that pass a test: what a loop over the range needs of them, and that the number at a place and the place of a
-- number undo each other.
use Prim.Native.Nat.{ℕ, zero, suc, ◌+◌, ◌-◌, ◌<◌, ◌≤◌, suc-le-suc}
use native.Mathlib.Nat.{le_refl, lt_irrefl, eq-or-lt_of_le, not-suc-le-zero, le_of_suc-le-suc, sub_self, sub-zero}
use native.Mathlib.Numerals.{add-one}
use native.Mathlib.Omega.{arith}
use mathlib.Core.Bool.{Bool, true, false}
use mathlib.Core.List.{List, [], ◌∷◌}
use mathlib.Core.Logic.{◌⊎◌, inl, inr}
use mathlib.Core.Path.{◌≡◌, refl, ap, ◌∙◌}
use lib.ListN.{length, get_or}
use Rattle.lists.specs.Range.{from, upto, keep}
use Rattle.lists.proofs.CaseSplits.{cases}

module _ (p : ℕ → Bool) where
  -- what is kept of i .. n − 1: the state of a loop that has come to i
  unfoldable pub ahead : ℕ → ℕ → List ℕ
  ahead i n = keep p (from i (n - i))

  pub ahead_start : (n : ℕ) → keep p (upto n) ≡ ahead 0 n
  unfolding ahead
  ahead_start n = rw (sub-zero n)

  pub ahead_take : (i n : ℕ) → i < n → p i ≡ true → ahead i n ≡ i ∷ ahead (i + 1) n
  unfolding ahead keep from
  ahead_take i n l h = let s : n - i ≡ suc (n - (i + 1)) = omega arith in rw (s, h, add-one i)

  pub ahead_skip : (i n : ℕ) → i < n → p i ≡ false → ahead i n ≡ ahead (i + 1) n
  unfolding ahead keep from
  ahead_skip i n l h = let s : n - i ≡ suc (n - (i + 1)) = omega arith in rw (s, h, add-one i)

  pub ahead_end : (i n : ℕ) → n ≤ i → ahead i n ≡ []
  unfolding ahead keep from
  ahead_end i n h = let s : n - i ≡ 0 = omega arith in rw s

  -- how many of the k numbers from i on pass
  unfoldable pub count : ℕ → ℕ → ℕ
  count i k = length (keep p (from i k))

  pub count_next : (i k : ℕ) → p i ≡ true → count i (suc k) ≡ suc (count (suc i) k)
  unfolding count keep from
  count_next i k h = rw h

  pub count_same : (i k : ℕ) → p i ≡ false → count i (suc k) ≡ count (suc i) k
  unfolding count keep from
  count_same i k h = rw h

  -- the number at place j among those that pass
  unfoldable pub nth : ℕ → ℕ → ℕ → ℕ
  nth i k j = get_or (keep p (from i k)) j 0

  -- c is the number at place j: it is in the range, it passes, and j of the numbers before it pass
  pub record Placed (i k j c : ℕ) : Type 0 where
    pub low : i ≤ c
    pub high : c < i + k
    pub passes : p c ≡ true
    pub before : count i (c - i) ≡ j

  one_later : (i c : ℕ) → suc i ≤ c → c - i ≡ suc (c - suc i)
  one_later i c h = omega arith

  placed_kept : (i k j c : ℕ) → p i ≡ true → Placed (suc i) k j c → Placed i (suc k) (suc j) c
  placed_kept i k j c h r =
      record {
        low = omega arith;
        high = omega arith;
        passes = r.passes;
        before = rw (one_later i c r.low) (count_next i (c - suc i) h ∙ ap suc r.before);
      }

  placed_passed : (i k j c : ℕ) → p i ≡ false → Placed (suc i) k j c → Placed i (suc k) j c
  placed_passed i k j c h r =
      record {
        low = omega arith;
        high = omega arith;
        passes = r.passes;
        before = rw (one_later i c r.low) (count_same i (c - suc i) h ∙ r.before);
      }

  pub nth_placed : (k i j : ℕ) → j < count i k → Placed i k j (nth i k j)
  unfolding count nth keep from
  nth_placed zero i j l = absurd (not-suc-le-zero l)
  nth_placed (suc k) i zero l =
      cases (p i)
      (λ e. rw e (record { low = le_refl i; high = omega arith; passes = e; before = rw (sub_self i) }))
      (λ e. rw e (placed_passed i k zero (nth (suc i) k zero) e (nth_placed k (suc i) zero (rw e at l))))
  nth_placed (suc k) i (suc j) l =
      cases (p i)
      (λ e. rw e (placed_kept i k j (nth (suc i) k j) e (nth_placed k (suc i) j (le_of_suc-le-suc (rw e at l)))))
      (λ e. rw e (placed_passed i k (suc j) (nth (suc i) k (suc j)) e (nth_placed k (suc i) (suc j) (rw e at l))))

  -- the other way: a number that passes stands at the place of its count
  abbrev pub Stands : ℕ → ℕ → ℕ → Type 0
  Stands i k c = (count i (c - i) < count i k) × (nth i k (count i (c - i)) ≡ c)

  first_stands : (i k : ℕ) → p i ≡ true → Stands i (suc k) i
  unfolding count nth keep from
  first_stands i k h = rw (sub_self i, h) (omega arith, refl)

  later_stands : (i k c : ℕ) → suc i ≤ c → Stands (suc i) k c → Stands i (suc k) c
  unfolding count nth keep from
  later_stands i k c l r =
      cases (p i)
      (λ e. rw (one_later i c l, e) (suc-le-suc r.0, r.1))
      (λ e. rw (one_later i c l, e) r)

  pub placed_nth : (k i c : ℕ) → i ≤ c → c < i + k → p c ≡ true → Stands i k c
  placed_nth zero i c l h e = absurd (lt_irrefl c (omega arith))
  placed_nth (suc k) i c l h e = go (λ m. placed_nth k (suc i) c m (omega arith) e) (eq-or-lt_of_le l)
    where
      go : (suc i ≤ c → Stands (suc i) k c) → (i ≡ c) ⊎ (i < c) → Stands i (suc k) c
      go ih (inl q) = rw (← q) (first_stands i k (rw q e))
      go ih (inr m) = later_stands i k c m (ih m)
