-- Tasks and VCPUs: the bounds of charges and needs, what a search keeps, and that the search serves both.
use Prim.Native.Nat.{ℕ, suc, ◌+◌, ◌-◌, ◌*◌, ◌/◌, ◌%◌, ◌<◌, ◌≤◌}
use native.Mathlib.Nat.{le_refl, le_trans, mul-le-mul, mul-le-mul_left, mul-le-mul_right}
use native.Mathlib.Omega.{arith}
use mathlib.Core.List.{List}
use mathlib.Core.Path.{◌≡◌, refl, sym}
use lib.Arith.{bin_ind}
use lib.Bits.{bit_and, and_step, and_zero_l}
use lib.Count.{ones, ones_step}
use lib.ListN.{get_or}
use borrow.Author.Tests.{eq-eqb, ne_eqb}
use Rattle.supply.specs.Supply.{supply, first_supply, Budget}
use Rattle.supply.proofs.Laws.{first_le, le_supply, le_first}
use Rattle.rows.specs.RowWords.{core, vcpu_period, budget, task_period, colour_set, cost, vcpu_rows, task_rows}
use Rattle.rows.specs.Reload.{held_from, reloaded, arrival_charge, charges}
use Rattle.times.specs.Times.{arrivals, need, task_need, vcpu_charge, vcpu_need}
use Rattle.rows.proofs.Charging.{reloaded_is, charge_kept}
use Rattle.rows.specs.ValidRows.{TaskRow, Tasks, Vcpus}
use Rattle.times.proofs.Search.{Searchable}
use Rattle.times.proofs.Needs.{need_mono, own_le, need_next, need_le, need_same}

-- no more colours are in two sets than in one of them
pub ones_and : (a b : ℕ) → ones (bit_and a b) ≤ ones a
ones_and =
    bin_ind (λ (a : ℕ). (b : ℕ) → ones (bit_and a b) ≤ ones a)
    (λ b. rw (and_zero_l b) (le_refl (ones 0)))
    (λ a ih b.
    let half : bit_and a b / 2 ≡ bit_and (a / 2) (b / 2) = omega (arith, and_step a b) in
    let low : bit_and a b % 2 ≤ a % 2 = omega (arith, and_step a b) in
    omega (arith, low, rw half at (ones_step (bit_and a b)), ones_step a, ih (b / 2)))

pub reloaded_le : (part : List ℕ) (i j : ℕ) → TaskRow part j → reloaded part i j ≤ 16
reloaded_le part i j r = rw (reloaded_is part i j) (le_trans (ones_and (colour_set part j) (held_from part (suc j) (i - j))) r.colours_high)

pub charge_le : (reload : ℕ) (part : List ℕ) (i j : ℕ) → reload ≤ 10000 → TaskRow part j → arrival_charge reload part i j ≤ 1160000
unfolding arrival_charge
charge_le reload part i j h r = omega (arith, r.cost_high, mul-le-mul h (reloaded_le part i j r))

-- a sum of need with one row more: over 32 rows at most, with charges of at most 1,160,000, it fits in 64 bits
pub need_added : (own : ℕ) (period charged : ℕ → ℕ) (m n t sum term : ℕ) → own ≤ 1000000 → t ≤ 1000000 → m < n → n ≤ 32
    → ((j : ℕ) → j < n → charged j ≤ 1160000) → sum ≡ need own period charged m t → term ≡ arrivals t (period m) * charged m
    → (sum + term ≡ need own period charged (m + 1) t) × (sum + term ≤ 38000000000000)
need_added own period charged m n t sum term ho ht hm hn few e f =
    let added : sum + term ≡ need own period charged (m + 1) t = rw (e, f) (sym (need_next own period charged m t)) in
    let b = need_le own period charged 1160000 (m + 1) t (λ j k. few j (omega arith)) in
    (added, omega (arith, added, b, mul-le-mul_left (m + 1) (mul-le-mul_right 1160000 ht)))

-- what a search of a task keeps, its cost and the charges of the rows before it, gives its need
module _ (reload : ℕ) (part : List ℕ) (i own : ℕ) (charged : List ℕ) (own_is : own ≡ cost part i) (charged_is : charged ≡ charges reload part i) where
  pub kept_le : reload ≤ 10000 → Tasks part → i < task_rows part → (j : ℕ) → j < i → get_or charged j 0 ≤ 1160000
  kept_le h rows here j l =
      rw (charged_is, charge_kept reload part i (omega (arith, rows.few)) j l) (charge_le reload part i j h (rows.row j (omega arith)))

  pub kept_need : (t : ℕ) → i < 32 → need own (task_period part) (λ (j : ℕ). get_or charged j 0) i t ≡ task_need reload part i t
  unfolding task_need
  kept_need t few =
      rw (own_is, charged_is)
      (need_same (cost part i) (task_period part) (task_period part) (arrival_charge reload part i) (λ (j : ℕ). get_or (charges reload part i) j 0) i t
      (λ j l. (refl, charge_kept reload part i few j l)))

-- an earlier VCPU charges its budget on its core, and nothing on another
pub same_core : (vcpus : List ℕ) (i j : ℕ) → core vcpus j ≡ core vcpus i → vcpu_charge vcpus i j ≡ budget vcpus j
unfolding vcpu_charge
same_core vcpus i j e = cc (eq-eqb (core vcpus j) (core vcpus i) e, eq-eqb (core vcpus i) (core vcpus j) (sym e))

pub other_core : (vcpus : List ℕ) (i j : ℕ) → (core vcpus j ≡ core vcpus i → ⊥) → vcpu_charge vcpus i j ≡ 0
unfolding vcpu_charge
other_core vcpus i j d = cc (ne_eqb (core vcpus j) (core vcpus i) d, ne_eqb (core vcpus i) (core vcpus j) (λ e. d (sym e)))

-- the search serves a task with some cost, under a budget
pub task_searchable : (p q reload : ℕ) (part : List ℕ) (i : ℕ) → Budget p q → 1 ≤ cost part i → Searchable (supply p q) (task_need reload part i) (first_supply p q)
unfolding task_need
task_searchable p q reload part i b some =
    record {
      first_le = first_le b;
      le_sup = le_supply b;
      le_first = le_first b;
      mono = need_mono (cost part i) (task_period part) (arrival_charge reload part i) i;
      some = λ t. le_trans some (own_le (cost part i) (task_period part) (arrival_charge reload part i) i t);
    }

pub task_search : (p q reload : ℕ) (part : List ℕ) (i : ℕ) → Budget p q → Tasks part → i < task_rows part → Searchable (supply p q) (task_need reload part i) (first_supply p q)
task_search p q reload part i b rows here = task_searchable p q reload part i b (rows.row i here).cost_low

-- and a VCPU with some budget
pub vcpu_searchable : (vcpus : List ℕ) (i : ℕ) → 1 ≤ budget vcpus i → Searchable (λ (t : ℕ). t) (vcpu_need vcpus i) (λ (x : ℕ). x)
unfolding vcpu_need
vcpu_searchable vcpus i some =
    record {
      first_le = λ x t pos h. h;
      le_sup = λ x t pos h. h;
      le_first = λ x pos. le_refl x;
      mono = need_mono (budget vcpus i) (vcpu_period vcpus) (vcpu_charge vcpus i) i;
      some = λ t. le_trans some (own_le (budget vcpus i) (vcpu_period vcpus) (vcpu_charge vcpus i) i t);
    }

pub vcpu_search : (vcpus : List ℕ) (i : ℕ) → Vcpus vcpus → i < vcpu_rows vcpus → Searchable (λ (t : ℕ). t) (vcpu_need vcpus i) (λ (x : ℕ). x)
vcpu_search vcpus i rows here = vcpu_searchable vcpus i (rows.row i here).budget_low
