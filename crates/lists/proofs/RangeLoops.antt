-- Loops over a range: one that looks for the lowest number that passes a test, one that asks whether any does, and one that counts those that do. What
-- each has still to find is settled by the numbers from the one it has come to.
use Rattle.std.specs.Prelude.{if◌then◌else◌}
use Prim.Native.Nat.{ℕ, zero, suc, ◌+◌, ◌-◌, ◌<◌, ◌≤◌}
use native.Mathlib.Nat.{le_refl, sub-zero}
use native.Mathlib.Numerals.{add-one}
use native.Mathlib.Omega.{arith}
use mathlib.Core.Bool.{Bool, true, false, ◌||◌}
use mathlib.Core.Path.{◌≡◌, refl, sym, ap, ◌∙◌}
use lib.ListN.{length}
use Rattle.lists.specs.Range.{from, upto, keep, any_of, lowest_from}
use Rattle.lists.proofs.CaseSplits.{cases}
use Rattle.lists.proofs.PassingNumbers.{ahead, ahead_start, ahead_take, ahead_skip, ahead_end}

module _ (p : ℕ → Bool) where
  pub sought_hit : (i n : ℕ) → i < n → p i ≡ true → lowest_from p i n ≡ i
  unfolding lowest_from ahead
  sought_hit i n l h = rw (ahead_take p i n l h)

  pub sought_miss : (i n : ℕ) → i < n → p i ≡ false → lowest_from p i n ≡ lowest_from p (i + 1) n
  unfolding lowest_from ahead
  sought_miss i n l h = rw (ahead_skip p i n l h)

  pub sought_end : (i n : ℕ) → n ≤ i → lowest_from p i n ≡ n
  unfolding lowest_from ahead
  sought_end i n h = rw (ahead_end p i n h)

  -- a loop for the lowest of j .. n − 1 that passes has come to i: what it looks for is ahead
  pub record Seeking (j n i : ℕ) : Type 0 where
    pub within : i ≤ n
    pub ahead : lowest_from p j n ≡ lowest_from p i n

  pub seek_start : (j n : ℕ) → j ≤ n → Seeking j n j
  seek_start j n l = record { within = l; ahead = refl }

  pub seek_hit : {j n i : ℕ} → Seeking j n i → i < n → p i ≡ true → i ≡ lowest_from p j n
  seek_hit s l h = sym (s.ahead ∙ sought_hit _ _ l h)

  pub seek_miss : {j n i : ℕ} → Seeking j n i → i < n → p i ≡ false → Seeking j n (i + 1)
  seek_miss s l h = record { within = omega arith; ahead = s.ahead ∙ sought_miss _ _ l h }

  pub seek_end : {j n i : ℕ} → Seeking j n i → n ≤ i → i ≡ lowest_from p j n
  seek_end {n = n} {i = i} s l = let all : i ≡ n = omega arith in all ∙ sym (s.ahead ∙ sought_end _ _ l)

  -- whether one of i .. n − 1 passes
  unfoldable pub any_ahead : ℕ → ℕ → Bool
  any_ahead i n = any_of p (from i (n - i))

  pub any_start : (n : ℕ) → any_of p (upto n) ≡ any_ahead 0 n
  unfolding any_ahead
  any_start n = rw (sub-zero n)

  pub any_hit : (i n : ℕ) → i < n → p i ≡ true → any_ahead i n ≡ true
  unfolding any_ahead from
  any_hit i n l h = let s : n - i ≡ suc (n - (i + 1)) = omega arith in rw (s, h)

  pub any_miss : (i n : ℕ) → i < n → p i ≡ false → any_ahead i n ≡ any_ahead (i + 1) n
  unfolding any_ahead from
  any_miss i n l h = let s : n - i ≡ suc (n - (i + 1)) = omega arith in rw (s, h, add-one i)

  pub any_end : (i n : ℕ) → n ≤ i → any_ahead i n ≡ false
  unfolding any_ahead from
  any_end i n h = let s : n - i ≡ 0 = omega arith in rw s

  -- nothing below m passes, so that it is asked from m on
  pub any_past : (n m : ℕ) → m ≤ n → ((k : ℕ) → k < m → p k ≡ false) → any_ahead 0 n ≡ any_ahead m n
  any_past n zero h none = refl
  any_past n (suc m) h none =
      any_past n m (omega arith) (λ k l. none k (omega arith))
      ∙ any_miss m n h (none m (le_refl (suc m)))
      ∙ ap (λ (i : ℕ). any_ahead i n) (add-one m)

  -- a loop that reads all the same: what it has found among the numbers before i, with those ahead, answers for all
  abbrev pub Asked : ℕ → ℕ → Bool → Type 0
  Asked n i found = any_of p (upto n) ≡ (found || any_ahead i n)

  pub asked_next : (n i : ℕ) (found : Bool) → i < n → Asked n i found → Asked n (i + 1) (found || p i)
  asked_next n i true l e = e
  asked_next n i false l e = cases (p i) (λ h. rw h (e ∙ any_hit i n l h)) (λ h. rw h (e ∙ any_miss i n l h))

  pub asked_end : (n i : ℕ) (found : Bool) → n ≤ i → Asked n i found → found ≡ any_of p (upto n)
  asked_end n i true l e = sym e
  asked_end n i false l e = sym (e ∙ any_end i n l)

  -- a loop that counts those of 0 .. n − 1 that pass has come to i: what it has counted, with those ahead
  pub record Counting (n i count : ℕ) : Type 0 where
    pub within : i ≤ n
    pub few : count ≤ i
    pub rest : length (keep p (upto n)) ≡ count + length (ahead p i n)

  pub counting_start : (n : ℕ) → Counting n 0 0
  counting_start n = record { within = omega arith; few = omega arith; rest = ap length (ahead_start p n) ∙ omega arith }

  pub counting_next : {n i count : ℕ} → Counting n i count → i < n → Counting n (i + 1) (count + (if p i then 1 else 0))
  counting_next {n} {i} {count} c l =
      cases (p i)
      (λ e. rw e (record { within = omega arith; few = omega (arith, c.few); rest = omega (arith, c.rest, ap length (ahead_take p i n l e)) }))
      (λ e. rw e (record { within = omega arith; few = omega (arith, c.few); rest = omega (arith, c.rest, ap length (ahead_skip p i n l e)) }))

  pub counting_end : {n i count : ℕ} → Counting n i count → n ≤ i → count ≡ length (keep p (upto n))
  counting_end {n} {i} c l = omega (arith, c.rest, ap length (ahead_end p i n l))
