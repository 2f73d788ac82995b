-- What spares the tests 18 and 20 some of their work: a cost is held against the one before alone, and a row only against those after it,
-- since of two rows that share a colour the lower is at fault first.
use Prim.Native.Nat.{ℕ, zero, suc, ◌+◌, ◌<◌, ◌≤◌}
use native.Mathlib.Nat.{lt_irrefl}
use native.Mathlib.Omega.{arith}
use mathlib.Core.Bool.{Bool, true, false, not, ◌&&◌, ◌||◌}
use mathlib.Core.List.{List}
use mathlib.Core.Path.{◌≡◌, refl, sym, ap, ◌∙◌}
use lib.Bits.{and_comm}
use lib.Dec.{eqb, ltb}
use borrow.Author.Tests.{lt-ltb, le-ltb, ltb-false, eq-eqb, ne_eqb, eqb-true, eqb-false}
use Rattle.lists.proofs.CaseSplits.{cases, below_or_not}
use Rattle.std.specs.Prelude.{Option, Some, None, MatchOption}
use Rattle.lists.specs.Range.{lowest_below}
use Rattle.lists.proofs.Finds.{lowest_found}
use Rattle.lists.proofs.RangeLoops.{any_ahead, any_start, any_past}
use Rattle.lists.proofs.Searches.{any_none}
use Rattle.board.specs.Tests.{shares}
use Rattle.rows.specs.RowWords.{vcpu_of, colour_set, task_rows}
use Rattle.plan.specs.Tests.{zero_or_above, shares_colour, shares_with_later}

-- the cost before is 1,000,000 where there is none, and never above
pub cost_test : (k before prev cost : ℕ) → 1 ≤ k → before ≤ 1000000 → (k ≡ 1 → before ≡ 1000000) → (1 < k → before ≡ prev)
    → zero_or_above 1000000 cost || (ltb 1 k && ltb prev cost) ≡ zero_or_above before cost
cost_test k before prev cost one high first later =
    cases (eqb cost 0) (λ z. rw z refl)
    (λ z. below_or_not 1 k
    (λ l. cases (ltb prev cost)
    (λ a. let e : before ≡ prev = later l in rw (z, e, lt-ltb 1 k l, a) (or_true (ltb 1000000 cost)))
    (λ a. let e : before ≡ prev = later l in let low : cost ≤ 1000000 = omega (arith, ltb-false prev cost a) in rw (z, e, lt-ltb 1 k l, a, le-ltb 1000000 cost low) refl))
    (λ l. let e : before ≡ 1000000 = first (omega arith) in rw (z, e, le-ltb 1 k l) (or_false (ltb 1000000 cost))))
  where
    or_true : (b : Bool) → (b || true) ≡ true
    or_true true = refl
    or_true false = refl

    or_false : (b : Bool) → (b || false) ≡ b
    or_false true = refl
    or_false false = refl

module _ (tasks : List ℕ) where
  abbrev pub sharing : ℕ → ℕ → Bool
  sharing j k = not (eqb (vcpu_of tasks k) (vcpu_of tasks j)) && shares (colour_set tasks j) (colour_set tasks k)

  sharing_both : (j k : ℕ) → sharing j k ≡ sharing k j
  sharing_both j k =
      cases (eqb (vcpu_of tasks k) (vcpu_of tasks j))
      (λ e. rw (e, eq-eqb (vcpu_of tasks j) (vcpu_of tasks k) (sym (eqb-true (vcpu_of tasks k) (vcpu_of tasks j) e))) refl)
      (λ e. rw (e, ne_eqb (vcpu_of tasks j) (vcpu_of tasks k) (λ s. eqb-false (vcpu_of tasks k) (vcpu_of tasks j) e (sym s)), and_comm (colour_set tasks j) (colour_set tasks k)) refl)

  not_itself : (j : ℕ) → sharing j j ≡ false
  not_itself j = rw (eq-eqb (vcpu_of tasks j) (vcpu_of tasks j) refl) refl

  -- where no lower row shares a colour, the rows after it are left
  pub shares_later : (j : ℕ) → j < task_rows tasks → ((i : ℕ) → i < j → shares_colour tasks i ≡ false)
      → shares_colour tasks j ≡ any_ahead (sharing j) (j + 1) (task_rows tasks)
  shares_later j h none =
      any_start (sharing j) (task_rows tasks) ∙ any_past (sharing j) (task_rows tasks) (j + 1) (omega arith) below
    where
      below : (k : ℕ) → k < j + 1 → sharing j k ≡ false
      below k l =
          below_or_not k j
          (λ m. sharing_both j k ∙ any_none (sharing k) (task_rows tasks) j (none k m) h)
          (λ m. let same : k ≡ j = omega arith in ap (sharing j) same ∙ not_itself j)

  decides : (j : ℕ) → j < task_rows tasks → ((i : ℕ) → i < j → shares_colour tasks i ≡ false) → shares_colour tasks j ≡ shares_with_later tasks j
  unfolding any_ahead
  decides j h none = shares_later j h none

  none_shares : (m : ℕ) → m ≤ task_rows tasks → ((i : ℕ) → i < m → shares_with_later tasks i ≡ false) → (i : ℕ) → i < m → shares_colour tasks i ≡ false
  none_shares zero h none i l = absurd (lt_irrefl i (omega arith))
  none_shares (suc m) h none i l =
      let below = none_shares m (omega arith) (λ k g. none k (omega arith)) in
      below_or_not i m (below i) (λ g. let same : i ≡ m = omega arith in rw same (decides m (omega arith) below ∙ none m (omega arith)))

  -- the lowest row that shares with a later one is the lowest that shares with any
  pub sharing_found :
      (r : Option ℕ)
      → MatchOption r ((k : ℕ) → 0 ≤ k → k < task_rows tasks → shares_with_later tasks k ≡ false) (λ i. (0 ≤ i) × (i < task_rows tasks) × (shares_with_later tasks i ≡ true) × ((k : ℕ) → 0 ≤ k → k < i → shares_with_later tasks k ≡ false))
      → r ≡ lowest_below (shares_colour tasks) (task_rows tasks)
  sharing_found None h = lowest_found (shares_colour tasks) (task_rows tasks) None (λ k z l. none_shares (task_rows tasks) (omega arith) (λ i g. h i (omega arith) g) k l)
  sharing_found (Some i) h =
      let below : (k : ℕ) → k < i → shares_colour tasks k ≡ false = none_shares i (omega (arith, h.1)) (λ k g. h.3 k (omega arith) g) in
      lowest_found (shares_colour tasks) (task_rows tasks) (Some i) (h.0, h.1, decides i h.1 below ∙ h.2, λ k z l. below k l)
