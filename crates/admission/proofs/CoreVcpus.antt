-- The loop that keeps the VCPUs of a core: one of the core adds a row, one of another core adds nothing to the need.
-- That holds of rows within any ranges: those of a VCPU's row (`OnCore`), or those of what an arrival may charge (`InRange`).
use Prim.Native.Nat.{ℕ, ◌+◌, ◌*◌, ◌<◌, ◌≤◌}
use native.Mathlib.Nat.{lt_irrefl, le_refl, le_trans}
use native.Mathlib.Omega.{arith}
use mathlib.Core.List.{List}
use mathlib.Core.Path.{◌≡◌, refl, sym, ap, ap₂, ◌∙◌}
use lib.ListN.{length, set}
use lib.Seq.{get_or-set_same, get_or-set_other}
use Rattle.lists.proofs.CaseSplits.{below_or_not}
use Rattle.rows.specs.RowWords.{core, vcpu_period, budget}
use Rattle.rows.specs.ValidRows.{VcpuRow}
use Rattle.times.specs.Times.{arrivals, need, vcpu_charge, vcpu_need}
use Rattle.times.proofs.Needs.{need_next, need_same}
use Rattle.times.proofs.Bounds.{same_core, other_core}
use Rattle.admission.specs.declared.need.EarlierVcpu.{EarlierVcpu}
use Rattle.admission.specs.EarlierRows.{InRange, row_at, RowInRange, OnCore}

-- a budget is within what an arrival may charge
pub in_range : {rows : List EarlierVcpu} {k : ℕ} → RowInRange rows k → InRange (row_at rows k).period (row_at rows k).budget
in_range r = record { period_low = r.period_low; period_high = r.period_high; charge_high = le_trans r.budget_high (omega arith) }

-- n rows, each within R, stand for the VCPUs below row j: they give the need of VCPU i over these
pub record OnCoreWithin (R : EarlierVcpu → Type 0) (vcpus : List ℕ) (i j n : ℕ) (rows : List EarlierVcpu) : Type 0 where
  pub few : n ≤ j
  pub within : (k : ℕ) → k < n → R (row_at rows k)
  pub same : (t : ℕ)
      → need (budget vcpus i) (λ (k : ℕ). (row_at rows k).period) (λ (k : ℕ). (row_at rows k).budget) n t
      ≡ need (budget vcpus i) (vcpu_period vcpus) (vcpu_charge vcpus i) j t

module _ (R : EarlierVcpu → Type 0) (vcpus : List ℕ) (i : ℕ) where
  -- the need over the first n rows
  abbrev upto : ℕ → ℕ → ℕ
  upto n t = need (budget vcpus i) (vcpu_period vcpus) (vcpu_charge vcpus i) n t

  added : (j t : ℕ) → core vcpus j ≡ core vcpus i → upto (j + 1) t ≡ upto j t + arrivals t (vcpu_period vcpus j) * budget vcpus j
  added j t e = rw (need_next (budget vcpus i) (vcpu_period vcpus) (vcpu_charge vcpus i) j t, same_core vcpus i j e)

  not_added : (j t : ℕ) → (core vcpus j ≡ core vcpus i → ⊥) → upto (j + 1) t ≡ upto j t
  not_added j t e = need_next (budget vcpus i) (vcpu_period vcpus) (vcpu_charge vcpus i) j t ∙ rw (other_core vcpus i j e) (omega arith)

  pub within_start : (rows : List EarlierVcpu) → OnCoreWithin R vcpus i 0 0 rows
  unfolding need
  within_start rows = record { few = le_refl 0; within = λ k l. absurd (lt_irrefl k (omega arith)); same = λ t. refl }

  module _ {j n : ℕ} {rows : List EarlierVcpu} (c : OnCoreWithin R vcpus i j n rows) where
    pub within_miss : (core vcpus j ≡ core vcpus i → ⊥) → OnCoreWithin R vcpus i (j + 1) n rows
    within_miss e = record { few = omega (arith, c.few); within = c.within; same = λ t. c.same t ∙ sym (not_added j t e) }

    pub within_hit : core vcpus j ≡ core vcpus i → (row : EarlierVcpu) → R row → row.period ≡ vcpu_period vcpus j → row.budget ≡ budget vcpus j
        → n < length rows → OnCoreWithin R vcpus i (j + 1) (n + 1) (set rows n row)
    within_hit e row ranged period charge h =
        let here : row_at (set rows n row) n ≡ row = get_or-set_same rows n row _ h in
        let earlier : (k : ℕ) → k < n → row_at (set rows n row) k ≡ row_at rows k = λ k l. get_or-set_other rows n k row _ (λ q. lt_irrefl k (omega arith)) in
        record {
          few = omega (arith, c.few);
          within = λ k l.
              below_or_not k n
              (λ h. rw (earlier k h) (c.within k h))
              (λ h. let last : k ≡ n = omega arith in rw (last, here) ranged);
          same = λ t.
              need_next (budget vcpus i) (λ (k : ℕ). (row_at (set rows n row) k).period) (λ (k : ℕ). (row_at (set rows n row) k).budget) n t
              ∙ ap₂ (λ (x y : ℕ). x + y)
              (need_same (budget vcpus i) (λ (k : ℕ). (row_at rows k).period) (λ (k : ℕ). (row_at (set rows n row) k).period) (λ (k : ℕ). (row_at rows k).budget) (λ (k : ℕ). (row_at (set rows n row) k).budget) n t
              (λ k l. (ap (λ (r : EarlierVcpu). r.period) (earlier k l), ap (λ (r : EarlierVcpu). r.budget) (earlier k l))) ∙ c.same t)
              (rw (here, period, charge) refl)
              ∙ sym (added j t e);
        }

-- what a search of a VCPU keeps, its budget and the rows of its core, gives its need
pub within_need : {R : EarlierVcpu → Type 0} {vcpus : List ℕ} {rows : List EarlierVcpu} {i n own : ℕ} → own ≡ budget vcpus i → OnCoreWithin R vcpus i i n rows
    → (t : ℕ) → need own (λ (k : ℕ). (row_at rows k).period) (λ (k : ℕ). (row_at rows k).budget) n t ≡ vcpu_need vcpus i t
unfolding vcpu_need
within_need e c t = rw e (c.same t)

-- the ranges of what an arrival may charge, and those of a VCPU's row, which `OnCore` has
abbrev pub ChargeRange : EarlierVcpu → Type 0
ChargeRange row = InRange row.period row.budget

abbrev RowRange : EarlierVcpu → Type 0
RowRange row = (1 ≤ row.period) × (row.period ≤ 1000000) × (row.budget ≤ 1000000)

-- a VCPU's row is within both
module _ {vcpus : List ℕ} {j : ℕ} {row : EarlierVcpu} (valid : VcpuRow vcpus j) (period : row.period ≡ vcpu_period vcpus j) (charge : row.budget ≡ budget vcpus j) where
  in_row_range : RowRange row
  in_row_range = (
    rw period (le_trans valid.budget_low valid.budget_high),
    rw period valid.period_high,
    rw charge (le_trans valid.budget_high valid.period_high),
  )

  in_charge_range : ChargeRange row
  in_charge_range = let r = in_row_range in record { period_low = r.0; period_high = r.1; charge_high = le_trans r.2 (omega arith) }

-- one row more, where all are within what an arrival may charge
pub charge_hit : {vcpus : List ℕ} {i j n : ℕ} {rows : List EarlierVcpu} → OnCoreWithin ChargeRange vcpus i j n rows → core vcpus j ≡ core vcpus i
    → VcpuRow vcpus j → (row : EarlierVcpu) → row.period ≡ vcpu_period vcpus j → row.budget ≡ budget vcpus j
    → n < length rows → OnCoreWithin ChargeRange vcpus i (j + 1) (n + 1) (set rows n row)
charge_hit {vcpus} {i} c e valid row period charge h = within_hit ChargeRange vcpus i c e row (in_charge_range valid period charge) period charge h

module _ {vcpus : List ℕ} {i j n : ℕ} {rows : List EarlierVcpu} where
  in_rows : OnCore vcpus i j n rows → OnCoreWithin RowRange vcpus i j n rows
  in_rows c = record { few = c.few; within = λ k l. let r = c.within k l in (r.period_low, r.period_high, r.budget_high); same = c.same }

  on_core : OnCoreWithin RowRange vcpus i j n rows → OnCore vcpus i j n rows
  on_core c =
      record {
        few = c.few;
        within = λ k l. let r = c.within k l in record { period_low = r.0; period_high = r.1; budget_high = r.2 };
        same = c.same;
      }

module _ (vcpus : List ℕ) (i : ℕ) where
  pub on_core_start : (rows : List EarlierVcpu) → OnCore vcpus i 0 0 rows
  on_core_start rows = on_core (within_start RowRange vcpus i rows)

  module _ {j n : ℕ} {rows : List EarlierVcpu} (c : OnCore vcpus i j n rows) where
    pub on_core_miss : (core vcpus j ≡ core vcpus i → ⊥) → OnCore vcpus i (j + 1) n rows
    on_core_miss e = on_core (within_miss RowRange vcpus i (in_rows c) e)

    pub on_core_hit : core vcpus j ≡ core vcpus i → VcpuRow vcpus j → (row : EarlierVcpu) → row.period ≡ vcpu_period vcpus j → row.budget ≡ budget vcpus j
        → n < length rows → OnCore vcpus i (j + 1) (n + 1) (set rows n row)
    on_core_hit e valid row period charge h =
        on_core (within_hit RowRange vcpus i (in_rows c) e row (in_row_range valid period charge) period charge h)

pub kept_need : {vcpus : List ℕ} {rows : List EarlierVcpu} {i n own : ℕ} → own ≡ budget vcpus i → OnCore vcpus i i n rows → (t : ℕ)
    → need own (λ (k : ℕ). (row_at rows k).period) (λ (k : ℕ). (row_at rows k).budget) n t ≡ vcpu_need vcpus i t
kept_need e c t = within_need e (in_rows c) t
