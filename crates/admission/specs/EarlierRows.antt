-- What a search knows of the rows before one, the period of each and what an arrival of it charges, and what it keeps of the VCPUs of a core.
use Rattle.std.specs.Prelude.{ℕ, ◌<◌, ◌≤◌, List, ◌≡◌, get_or}
use Rattle.rows.specs.RowWords.{vcpu_period, budget}
use Rattle.times.specs.Times.{need, vcpu_charge}
use Rattle.admission.specs.declared.need.EarlierVcpu.{EarlierVcpu}

-- a row's period and charge are within their ranges
pub record InRange (period charge : ℕ) : Type 0 where
  pub period_low : 1 ≤ period
  pub period_high : period ≤ 1000000
  pub charge_high : charge ≤ 1160000

-- the k-th of a list of VCPUs, and past it one without a period
abbrev pub row_at : List EarlierVcpu → ℕ → EarlierVcpu
row_at rows k = get_or rows k (record { period = 0; budget = 0 })

-- the k-th is within its ranges
pub record RowInRange (rows : List EarlierVcpu) (k : ℕ) : Type 0 where
  pub period_low : 1 ≤ (row_at rows k).period
  pub period_high : (row_at rows k).period ≤ 1000000
  pub budget_high : (row_at rows k).budget ≤ 1000000

-- n rows stand for the VCPUs below row j: they give the need of VCPU i over these
pub record OnCore (vcpus : List ℕ) (i j n : ℕ) (rows : List EarlierVcpu) : Type 0 where
  pub few : n ≤ j
  pub within : (k : ℕ) → k < n → RowInRange rows k
  pub same : (t : ℕ)
      → need (budget vcpus i) (λ (k : ℕ). (row_at rows k).period) (λ (k : ℕ). (row_at rows k).budget) n t
      ≡ need (budget vcpus i) (vcpu_period vcpus) (vcpu_charge vcpus i) j t
