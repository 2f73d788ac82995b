-- What a planner relies on: what a reported time says, and that lowering a cost, the reload or the colours reloaded, or raising the
-- VCPU's budget, never makes a task's time later; a task added at the end changes no other task's time.
use Prim.Native.Nat.{ℕ, zero, suc, ◌+◌, ◌-◌, ◌*◌, ◌<◌, ◌≤◌}
use native.Mathlib.Nat.{le_refl, le_trans, add-le-add, mul-le-mul}
use native.Mathlib.Omega.{arith}
use mathlib.Core.Bool.{Bool, true, true≢false}
use mathlib.Core.List.{List, ◌++◌}
use mathlib.Core.Path.{◌≡◌, refl, sym, ap, ◌∙◌}
use lib.Dec.{leb}
use lib.Count.{ones}
use lib.ListN.{length, get_or-append}
use borrow.Author.Tests.{leb-true, leb-false, le-leb}
use Rattle.lists.proofs.CaseSplits.{below_or_not}
use Rattle.supply.specs.Supply.{supply, Budget}
use Rattle.supply.proofs.Laws.{supply_budget}
use Rattle.rows.specs.RowWords.{vcpu_period, task_word, task_period, deadline, colour_set, cost}
use Rattle.rows.specs.Reload.{held_from, reloaded, arrival_charge}
use Rattle.rows.proofs.Charging.{reloaded_is}
use Rattle.times.specs.FirstTime.{Time, At, Late, first_time, NoLater}
use Rattle.times.specs.Times.{task_need, time_in_part, vcpu_need, vcpu_time}
use Rattle.times.proofs.Search.{first_same, told_first, told_none}
use Rattle.times.proofs.Needs.{need_less, need_same}

-- a reported time: the supply in it covers the need, and in no earlier microsecond
pub time_is_first : (p q reload : ℕ) (part : List ℕ) (i t : ℕ) → time_in_part p q reload part i ≡ At t
    → (1 ≤ t) × (t ≤ deadline part i) × (task_need reload part i t ≤ supply p q t) × ((s : ℕ) → 1 ≤ s → s < t → supply p q s < task_need reload part i s)
unfolding time_in_part
time_is_first p q reload part i t e =
    let r = told_first (λ (s : ℕ). leb (task_need reload part i s) (supply p q s)) (deadline part i) t e in
    (r.low, omega (arith, r.high), leb-true _ _ r.passes, λ s a b. leb-false _ _ (r.before s a b))

-- late: in no microsecond from 1 to the deadline
pub late_is_late : (p q reload : ℕ) (part : List ℕ) (i : ℕ) → time_in_part p q reload part i ≡ Late
    → (s : ℕ) → 1 ≤ s → s ≤ deadline part i → supply p q s < task_need reload part i s
unfolding time_in_part
late_is_late p q reload part i e s a b = leb-false _ _ (told_none (λ (x : ℕ). leb (task_need reload part i x) (supply p q x)) (deadline part i) e s a b)

-- the same of a VCPU, whose supply in t is t
pub vcpu_time_is_first : (vcpus : List ℕ) (i t : ℕ) → vcpu_time vcpus i ≡ At t
    → (1 ≤ t) × (t ≤ vcpu_period vcpus i) × (vcpu_need vcpus i t ≤ t) × ((s : ℕ) → 1 ≤ s → s < t → s < vcpu_need vcpus i s)
unfolding vcpu_time
vcpu_time_is_first vcpus i t e =
    let r = told_first (λ (s : ℕ). leb (vcpu_need vcpus i s) s) (vcpu_period vcpus i) t e in
    (r.low, omega (arith, r.high), leb-true _ _ r.passes, λ s a b. leb-false _ _ (r.before s a b))

pub vcpu_late_is_late : (vcpus : List ℕ) (i : ℕ) → vcpu_time vcpus i ≡ Late
    → (s : ℕ) → 1 ≤ s → s ≤ vcpu_period vcpus i → s < vcpu_need vcpus i s
unfolding vcpu_time
vcpu_late_is_late vcpus i e s a b = leb-false _ _ (told_none (λ (x : ℕ). leb (vcpu_need vcpus i x) x) (vcpu_period vcpus i) e s a b)

-- a test that is passed wherever another is has its first time no later
pub no_later : (ok ok' : ℕ → Bool) (bound : ℕ) → ((s : ℕ) → s ≤ bound → ok s ≡ true → ok' s ≡ true) → NoLater (first_time ok bound) (first_time ok' bound)
no_later ok ok' bound f = go (first_time ok bound) (first_time ok' bound) refl refl
  where
    go : (a b : Time) → first_time ok bound ≡ a → first_time ok' bound ≡ b → NoLater a b
    go Late b e k = tt
    go (At t) (At s) e k =
        let r = told_first ok bound t e in
        let q = told_first ok' bound s k in
        below_or_not t s (λ l. absurd (true≢false (sym (f t (omega (arith, r.high)) r.passes) ∙ q.before t r.low l))) (λ l. l)
    go (At t) Late e k =
        let r = told_first ok bound t e in
        true≢false (sym (f t (omega (arith, r.high)) r.passes) ∙ told_none ok' bound k t r.low (omega (arith, r.high)))

-- Lower costs, a lower reload and fewer colours reloaded never make a task's time later, where periods and its deadline stay.
pub less_is_no_later :
    (p q reload reload' : ℕ) (part part' : List ℕ) (i : ℕ) → deadline part i ≡ deadline part' i → reload' ≤ reload → cost part' i ≤ cost part i
    → ((j : ℕ) → j < i → (task_period part' j ≡ task_period part j) × (cost part' j ≤ cost part j) × (reloaded part' i j ≤ reloaded part i j))
    → NoLater (time_in_part p q reload part i) (time_in_part p q reload' part' i)
unfolding time_in_part task_need arrival_charge
less_is_no_later p q reload reload' part part' i due less own f =
    let needs : (t : ℕ) → task_need reload' part' i t ≤ task_need reload part i t = λ t.
    need_less (cost part i) (cost part' i) (task_period part) (task_period part') (arrival_charge reload part i) (arrival_charge reload' part' i) i t own
    (λ j l. let r = f j l in (r.0, add-le-add r.1 (mul-le-mul less r.2))) in
    rw (← due)
    (no_later (λ (t : ℕ). leb (task_need reload part i t) (supply p q t)) (λ (t : ℕ). leb (task_need reload' part' i t) (supply p q t)) (deadline part i)
    (λ t h e. le-leb _ _ (le_trans (needs t) (leb-true _ _ e))))

-- A larger budget of the VCPU never makes a task's time later.
pub budget_is_no_later :
    (p q q' reload : ℕ) (part : List ℕ) (i : ℕ) → Budget p q → q ≤ q' → q' ≤ p
    → NoLater (time_in_part p q reload part i) (time_in_part p q' reload part i)
unfolding time_in_part
budget_is_no_later p q q' reload part i b le within =
    no_later (λ (t : ℕ). leb (task_need reload part i t) (supply p q t)) (λ (t : ℕ). leb (task_need reload part i t) (supply p q' t)) (deadline part i)
    (λ t h e. le-leb _ _ (le_trans (leb-true _ _ e) (supply_budget p q q' t b le within)))

-- A task added at the end, whatever words come after the rows up to task i, changes nothing in its time.
module _ (part more : List ℕ) (i : ℕ) (whole : 20 * i + 20 ≤ length part) where
  word_stays : (j k : ℕ) → j ≤ i → k < 20 → task_word (part ++ more) j k ≡ task_word part j k
  word_stays j k h l = get_or-append part more 0 (20 * j + k) (omega arith)

  set_stays : (j : ℕ) → j ≤ i → colour_set (part ++ more) j ≡ colour_set part j
  set_stays j h = word_stays j 3 h (omega arith)

  -- the union of the sets of rows up to task i
  held_stays : (n k : ℕ) → k + n ≤ i + 1 → held_from (part ++ more) k n ≡ held_from part k n
  unfolding held_from
  held_stays zero k h = refl
  held_stays (suc n) k h = rw (set_stays k (omega arith), held_stays n (suc k) (omega arith))

  reloaded_stays : (j : ℕ) → j < i → reloaded (part ++ more) i j ≡ reloaded part i j
  reloaded_stays j h =
      reloaded_is (part ++ more) i j ∙ rw (set_stays j (omega arith), held_stays (i - j) (suc j) (omega arith)) (sym (reloaded_is part i j))

  pub later_tasks_change_nothing : (p q reload : ℕ) → ((j : ℕ) → j ≤ i → ones (colour_set part j) ≤ 16)
      → time_in_part p q reload (part ++ more) i ≡ time_in_part p q reload part i
  unfolding time_in_part task_need arrival_charge cost
  later_tasks_change_nothing p q reload few =
      let costs : (j : ℕ) → j ≤ i → cost (part ++ more) j ≡ cost part j = λ j h.
      rw (set_stays j h) (word_stays j (3 + ones (colour_set part j)) h (omega (arith, few j h))) in
      let needs : (t : ℕ) → task_need reload (part ++ more) i t ≡ task_need reload part i t = λ t.
      rw (costs i (le_refl i))
      (need_same (cost part i) (task_period part) (task_period (part ++ more)) (arrival_charge reload part i) (arrival_charge reload (part ++ more) i) i t
      (λ j l. (word_stays j 1 (omega arith) (omega arith), rw (costs j (omega arith), reloaded_stays j l)))) in
      first_same (λ (t : ℕ). leb (task_need reload (part ++ more) i t) (supply p q t)) (λ (t : ℕ). leb (task_need reload part i t) (supply p q t)) (deadline (part ++ more) i)
      (λ t. ap (λ (x : ℕ). leb x (supply p q t)) (needs t))
      ∙ ap (first_time (λ (t : ℕ). leb (task_need reload part i t) (supply p q t))) (word_stays i 2 (le_refl i) (omega arith))
