-- What an answer that may be none says of a number that it gives below a bound: that number lies below it, or it does not. So for the lowest number that
-- passes a test.
use Rattle.std.proofs.Common.{◌≡◌, ℕ, ◌<◌, ◌≤◌, Bool, true, false, ltb, Option, Some, None, if◌then◌else◌, sym, ap, ◌∙◌, lt-ltb, le-ltb}
use mathlib.Core.Bool.{true≢false}
use Rattle.lists.specs.Range.{lowest, lowest_below}
use Rattle.lists.proofs.CaseSplits.{below_or_not}
use Rattle.lists.proofs.RangeLoops.{Seeking, seek_hit, seek_end}

value_or : ℕ → Option ℕ → ℕ
value_or n None = n
value_or n (Some i) = i

is_some : Option ℕ → Bool
is_some None = false
is_some (Some i) = true

module _ (g n : ℕ) where
  abbrev pub below : Option ℕ
  below = if ltb g n then Some g else None

  pub there : g < n → below ≡ Some g
  there l = rw (lt-ltb g n l)

  pub nowhere : n ≤ g → below ≡ None
  nowhere h = rw (le-ltb g n h)

  pub some_below : (i : ℕ) → Some i ≡ below → (i ≡ g) × (i < n)
  unfolding value_or is_some
  some_below i e =
      below_or_not g n
      (λ l. let same : i ≡ g = ap (value_or 0) (e ∙ there l) in (same, rw same l))
      (λ h. absurd (true≢false (ap is_some (e ∙ nowhere h))))

  pub none_below : None ≡ below → n ≤ g
  unfolding is_some
  none_below e = below_or_not g n (λ l. absurd (true≢false (ap is_some (sym (there l) ∙ sym e)))) (λ h. h)

module _ (p : ℕ → Bool) (n : ℕ) where
  pub found_low : (i : ℕ) → lowest_below p n ≡ Some i → (i ≡ lowest p n) × (i < n)
  unfolding lowest_below
  found_low i e = some_below (lowest p n) n i (sym e)

  pub found_none : lowest_below p n ≡ None → n ≤ lowest p n
  unfolding lowest_below
  found_none e = none_below (lowest p n) n (sym e)

  -- a loop that seeks it comes to one that passes, or to the end
  pub hit_below : {i : ℕ} → Seeking p 0 n i → i < n → p i ≡ true → Some i ≡ lowest_below p n
  unfolding lowest_below
  hit_below {i} s l e = let same : i ≡ lowest p n = seek_hit p s l e in ap Some same ∙ sym (there (lowest p n) n (rw same at l))

  pub end_below : {i : ℕ} → Seeking p 0 n i → n ≤ i → None ≡ lowest_below p n
  unfolding lowest_below
  end_below {i} s h = let same : i ≡ lowest p n = seek_end p s h in sym (nowhere (lowest p n) n (rw same at h))
