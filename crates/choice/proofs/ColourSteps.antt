-- The numbers of one colour: from one of them to the next it is as far as there are colours, so that a search and a sum over them may go in such steps.
use Rattle.std.proofs.Common.{◌≡◌, ℕ, ◌+◌, ◌-◌, ◌%◌, ◌<◌, ◌≤◌, Bool, false, sym, ap, ◌∙◌, lt_trans, le_refl, lt_irrefl, mod-lt, mod-eq_of_lt, arith, ne_eqb}
use native.Mathlib.Nat.{mod-add-mod, mod-eq-sub-mod}
use mathlib.Core.Bool.{and-false}
use Rattle.lists.specs.Range.{lowest, lowest_from}
use Rattle.lists.proofs.CaseSplits.{below_or_not}
use Rattle.lists.proofs.PassingNumbers.{ahead, ahead_end}
use Rattle.lists.proofs.RangeLoops.{sought_end}
use Rattle.lists.proofs.Searches.{ahead_past, sought_past, none_lowest, from_on}
use Rattle.calls.specs.FrameChoice.{of_colour}

-- between two there is none
pub next_of_colour : (n f k : ℕ) → 1 ≤ n → f ≤ k → k < f + n → k % n ≡ f % n → k ≡ f
next_of_colour n f k some from to same =
    let j : ℕ = k - f in
    let on : k ≡ f + j = omega arith in
    let low = mod-lt f {m = n} some in
    let round : (f % n + j) % n ≡ f % n = mod-add-mod f n j ∙ ap (λ (x : ℕ). x % n) (sym on) ∙ same in
    below_or_not (f % n + j) n
    (λ l. omega (arith, round, mod-eq_of_lt l))
    (λ h.
    let rest : (f % n + j - n) % n ≡ f % n = sym (mod-eq-sub-mod h) ∙ round in
    let less : f % n + j - n < n = omega (arith, low) in
    omega (arith, rest, mod-eq_of_lt less, low))

-- a test that only numbers of one colour pass
module _ (p : ℕ → Bool) (n x : ℕ) (some : 1 ≤ n) (only : (k : ℕ) → (k % n ≡ x → ⊥) → p k ≡ false) where
  between : (f k : ℕ) → f % n ≡ x → f + 1 ≤ k → k < f + n → p k ≡ false
  between f k e l h = only k (λ z. lt_irrefl f (omega (arith, l, next_of_colour n f k some (omega arith) h (z ∙ sym e))))

  past_end : (f m : ℕ) → f % n ≡ x → f < m → m ≤ f + n → ahead p (f + 1) m ≡ ahead p (f + n) m
  past_end f m e l h =
      ahead_past p (f + 1) m m (omega arith) (le_refl m) (λ k a b. between f k e a (omega arith))
      ∙ ahead_end p m m (le_refl m)
      ∙ sym (ahead_end p (f + n) m h)

  pub ahead_step : (f m : ℕ) → f % n ≡ x → f < m → ahead p (f + 1) m ≡ ahead p (f + n) m
  ahead_step f m e l =
      below_or_not (f + n) m
      (λ h. ahead_past p (f + 1) (f + n) m (omega arith) (omega arith) (λ k a b. between f k e a b))
      (λ h. past_end f m e l h)

  pub seek_step : (f m : ℕ) → f % n ≡ x → f < m → p f ≡ false → lowest_from p f m ≡ lowest_from p (f + n) m
  seek_step f m e l out =
      below_or_not (f + n) m
      (λ h. sought_past p f (f + n) m (omega arith) (omega arith) (λ k a b. from_f k a b))
      (λ h.
      sought_past p f m m (omega arith) (le_refl m) (λ k a b. from_f k a (omega arith))
      ∙ sought_end p m m (le_refl m)
      ∙ sym (sought_end p (f + n) m h))
    where
      from_f : (k : ℕ) → f ≤ k → k < f + n → p k ≡ false
      from_f k a b = from_on (λ (j : ℕ). p j ≡ false) f k a out (λ m. between f k e (omega arith) b)

-- the lowest number with remainder x, which is x or beyond
module _ (p : ℕ → Bool) (n x : ℕ) (l : x < n) where
  under : (m : ℕ) → m < x → of_colour n p x m ≡ false
  under m h = rw (mod-eq_of_lt (lt_trans h l), ne_eqb m x (λ z. lt_irrefl m (omega arith))) (and-false (p m))

  pub first_of_colour : (m : ℕ) → lowest_from (of_colour n p (x % n)) x m ≡ lowest (of_colour n p x) m
  first_of_colour m =
      rw (mod-eq_of_lt l)
      (below_or_not m x
      (λ h. sought_end (of_colour n p x) x m (omega arith) ∙ sym (none_lowest (of_colour n p x) m (λ f k. under f (omega arith))))
      (λ h. sym (sought_past (of_colour n p x) 0 x m (omega arith) h (λ f a b. under f b))))
