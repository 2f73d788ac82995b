-- What `find` and `any` over the numbers below a bound give: the lowest that passes, and whether one does. A caller cites std's
-- `first_from_Range` or `cases_from_any` for what its closure computes, and one of these for the definition.
use Prim.Native.Nat.{ℕ, zero, suc, ◌+◌, ◌<◌, ◌≤◌}
use native.Mathlib.Omega.{arith}
use mathlib.Core.Bool.{Bool, true, false, ◌||◌}
use native.Mathlib.Numerals.{add-one}
use Rattle.std.specs.List.{list_any, range_with_len}
use mathlib.Core.Path.{◌≡◌, refl, sym, ap, ◌∙◌}
use borrow.Author.Tests.{lt-ltb, le-ltb}
use Rattle.std.specs.Prelude.{Option, Some, None, MatchOption}
use Rattle.lists.specs.Range.{from, any_of, lowest, lowest_below}
use Rattle.lists.proofs.RangeLoops.{Seeking, seek_start, seek_hit, seek_miss, seek_end}

module _ (p : ℕ → Bool) where
  -- where the numbers below m do not pass, the search has come to m
  none_so_far : (n m : ℕ) → m ≤ n → ((k : ℕ) → k < m → p k ≡ false) → Seeking p 0 n m
  none_so_far n zero h none = seek_start p 0 n (omega arith)
  none_so_far n (suc m) h none = let s = none_so_far n m (omega arith) (λ k l. none k (omega arith)) in
      let e : m + 1 ≡ suc m = omega arith in rw (← e) (seek_miss p s (omega arith) (none m (omega arith)))

  pub lowest_found :
      (n : ℕ) (r : Option ℕ)
      → MatchOption r ((k : ℕ) → 0 ≤ k → k < n → p k ≡ false) (λ i. (0 ≤ i) × (i < n) × (p i ≡ true) × ((k : ℕ) → 0 ≤ k → k < i → p k ≡ false))
      → r ≡ lowest_below p n
  unfolding lowest_below
  lowest_found n None h =
      let e : n ≡ lowest p n = seek_end p (none_so_far n n (omega arith) (λ k l. h k (omega arith) l)) (omega arith) in
      rw (← e, le-ltb n n (omega arith)) refl
  lowest_found n (Some i) h =
      let e : i ≡ lowest p n = seek_hit p (none_so_far n i (omega (arith, h.1)) (λ k l. h.3 k (omega arith) l)) h.1 h.2 in
      rw (← e, lt-ltb i n h.1) refl

  pub none_found : (n : ℕ) → ((k : ℕ) → k < n → p k ≡ false) → lowest_below p n ≡ None
  none_found n none = sym (lowest_found n None (λ k l h. none k h))

-- what `any` asks of the numbers of a range is what the definition asks
pub any_in_range : (p : ℕ → Bool) (i n : ℕ) → list_any p (range_with_len i n) ≡ any_of p (from i n)
unfolding from
any_in_range p i zero = refl
any_in_range p i (suc n) = ap (λ b. p i || b) (any_in_range p (i + 1) n ∙ ap (λ j. any_of p (from j n)) (add-one i))
