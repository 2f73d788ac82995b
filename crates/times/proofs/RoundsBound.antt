-- The bound on rounds: document 02, No. 9. Each round but the first two starts where more arrivals of earlier rows are seen than at the round
-- before, and none starts past the deadline, so that they are at most 2 and the arrivals between 1 and the deadline.
use Rattle.std.specs.Prelude.{if◌then◌else◌}
use Prim.Native.Nat.{ℕ, zero, suc, ◌+◌, ◌-◌, ◌<◌, ◌≤◌}
use native.Mathlib.Nat.{le_refl, lt_irrefl, le_trans, add-le-add, div_self, mul-zero}
use native.Mathlib.Omega.{arith}
use mathlib.Core.Bool.{Bool, false}
use mathlib.Core.Path.{◌≡◌, refl, ap, ◌∙◌}
use Rattle.lists.proofs.CaseSplits.{cases, below_or_not}
use Rattle.times.specs.Times.{arrivals, need}
use Rattle.times.specs.Rounds.{rounds_from, rounds, rounds_bound}
use Rattle.times.proofs.Search.{Searchable}
use Rattle.times.proofs.Needs.{arrivals_mono, arrivals_are}
use Rattle.times.proofs.CountedRounds.{ends, exceeds, goes_on, later}

-- in the first microsecond each row arrives once
first_arrival : (period : ℕ) → 1 ≤ period → arrivals 1 period ≡ 1
first_arrival period low =
    let whole : 1 + (period - 1) ≡ period = omega arith in
    arrivals_are period 1 low ∙ rw whole (div_self low)

module _ (counts : ℕ → Bool) (period : ℕ → ℕ) where
  -- the arrivals in t of those of the first n rows that count
  abbrev seen : ℕ → ℕ → ℕ
  seen zero t = 0
  seen (suc j) t = seen j t + (if counts j then arrivals t (period j) else 0)

  seen_mono : (n s t : ℕ) → s ≤ t → seen n s ≤ seen n t
  seen_mono zero s t h = le_refl 0
  seen_mono (suc n) s t h =
      cases (counts n)
      (λ e. rw e (add-le-add (seen_mono n s t h) (arrivals_mono (period n) s t h)))
      (λ e. rw e (add-le-add (seen_mono n s t h) (le_refl 0)))

  -- the bound is 2 and what is seen between 1 and the deadline
  bound_seen : (due n : ℕ) → 1 ≤ due → ((j : ℕ) → j < n → 1 ≤ period j) → rounds_bound counts period due n + seen n 1 ≡ 2 + seen n due
  unfolding rounds_bound
  bound_seen due zero h low = refl
  bound_seen due (suc n) h low =
      let rest = bound_seen due n h (λ j l. low j (omega arith)) in
      let one = first_arrival (period n) (low n (omega arith)) in
      cases (counts n)
      (λ e. rw e (omega (arith, rest, one, arrivals_mono (period n) 1 due h)))
      (λ e. rw e (omega (arith, rest)))

  module _ (own : ℕ) (charge : ℕ → ℕ) (idle : (j : ℕ) → counts j ≡ false → charge j ≡ 0) where
    -- where no more arrivals are seen, the need is the same
    same_need : (n s t : ℕ) → s ≤ t → seen n t ≤ seen n s → need own period charge n t ≡ need own period charge n s
    unfolding need
    same_need zero s t h l = refl
    same_need (suc n) s t h l =
        let rest = seen_mono n s t h in
        let one = arrivals_mono (period n) s t h in
        cases (counts n)
        (λ e.
        let m = rw e at l in
        let arrived : arrivals t (period n) ≡ arrivals s (period n) = omega (arith, m, rest, one) in
        rw (same_need n s t h (omega (arith, m, rest, one)), arrived) refl)
        (λ e. rw (same_need n s t h (omega (arith, rw e at l)), idle n e, mul-zero (arrivals t (period n)), mul-zero (arrivals s (period n))) refl)

    module _ {sup first : ℕ → ℕ} (n due : ℕ) (r : Searchable sup (need own period charge n) first) where
      abbrev want : ℕ → ℕ
      want t = need own period charge n t

      -- a round that goes on from where the one before came to sees more than that did
      sees_more : (s t : ℕ) → s ≤ t → t ≡ first (want s) → t < first (want t) → seen n s < seen n t
      sees_more s t l at g =
          below_or_not (seen n s) (seen n t) (λ m. m)
          (λ m. absurd (lt_irrefl t (omega (arith, g, at, ap first (same_need n s t l m)))))

      -- the rounds after one at s, which took t
      after : (m s t : ℕ) → s ≤ t → t ≤ due → t ≡ first (want s) → rounds_from sup want due m t + seen n s ≤ 1 + seen n due
      unfolding rounds_from
      after zero s t l h at = omega (arith, seen_mono n s due (le_trans l h))
      after (suc m) s t l h at =
          let next : ℕ = first (want t) in
          let few = seen_mono n s due (le_trans l h) in
          let low : t ≤ next = rw (← at) at (later r due s (omega arith)) in
          below_or_not due next
          (λ g. omega (arith, few, exceeds r due m t g))
          (λ g.
          below_or_not t next
          (λ k. omega (arith, goes_on r due m t k g, sees_more s t l at k, after m t next low g refl))
          (λ k. omega (arith, few, ends r due m t h (omega arith))))

      from_one : (m : ℕ) → 1 ≤ due → rounds_from sup want due m 1 + seen n 1 ≤ 2 + seen n due
      unfolding rounds_from
      from_one zero h = omega (arith, seen_mono n 1 due h)
      from_one (suc m) h =
          let next : ℕ = first (want 1) in
          let few = seen_mono n 1 due h in
          let low : 1 ≤ next = le_trans (r.some 1) (r.le_first (want 1) (r.some 1)) in
          below_or_not due next
          (λ g. omega (arith, few, exceeds r due m 1 g))
          (λ g.
          below_or_not 1 next
          (λ k. omega (arith, goes_on r due m 1 k g, after m 1 next low g refl))
          (λ k. omega (arith, few, ends r due m 1 h (omega arith))))

      pub rounds_bounded : 1 ≤ due → ((j : ℕ) → j < n → 1 ≤ period j) → rounds sup want due ≤ rounds_bound counts period due n
      unfolding rounds
      rounds_bounded h low = omega (arith, from_one due h, bound_seen due n h low)
