-- The laws of need, over any periods and charges: it never falls, is at least the own cost, has a bound for bounded charges,
-- and goes by its periods and charges.
use Prim.Native.Nat.{ℕ, zero, suc, ◌+◌, ◌-◌, ◌*◌, ◌/◌, ◌<◌, ◌≤◌}
use native.Mathlib.Nat.{le_refl, le_trans, add-le-add, mul-le-mul, mul-le-mul_left, mul-le-mul_right, le-div_iff_mul-le, div-mul-le_self, div-zero, eq-zero-or-pos, div-lt_iff_lt-mul, le_of_suc-le-suc, le_of_eq, le-mul_of_pos_right, suc-mul, div-add-mod', mod-lt}
use native.Mathlib.Numerals.{add-one}
use native.Mathlib.Omega.{arith}
use mathlib.Core.Logic.{⊎_elim}
use mathlib.Core.Path.{◌≡◌, refl, sym, ap, ◌∙◌}
use Rattle.times.specs.Times.{arrivals, need}

div_mono : (k : ℕ) {a c : ℕ} → a ≤ c → a / k ≤ c / k
div_mono k {a} {c} h =
    ⊎_elim
    (λ z. rw z (le_of_eq (div-zero a ∙ sym (div-zero c))))
    (λ pos. (le-div_iff_mul-le pos).1 (le_trans (div-mul-le_self a k) h))
    (eq-zero-or-pos k)

pub arrivals_mono : (period s t : ℕ) → s ≤ t → arrivals s period ≤ arrivals t period
unfolding arrivals
arrivals_mono period s t h = div_mono period (omega arith)

-- rounded up, by whatever words; what follows goes by this
pub arrivals_are : (period t : ℕ) → 1 ≤ period → arrivals t period ≡ (t + (period - 1)) / period
unfolding arrivals
arrivals_are period t pos = ap (λ (n : ℕ). n / period) (omega arith)

-- so many arrivals as cover t, and no more
arrivals_cover : (period t : ℕ) → 1 ≤ period → t ≤ arrivals t period * period
arrivals_cover period t pos =
    rw (arrivals_are period t pos) (omega (arith, div-add-mod' (t + (period - 1)) period, mod-lt (t + (period - 1)) pos))

pub arrivals_least : (period t k : ℕ) → 1 ≤ period → t ≤ k * period → arrivals t period ≤ k
arrivals_least period t k pos h =
    rw (arrivals_are period t pos) (le_of_suc-le-suc ((div-lt_iff_lt-mul {y = suc k} pos).1 (omega (arith, h, suc-mul k period))))

-- fewer of a longer period
pub arrivals_fall : (t period period' : ℕ) → 1 ≤ period → period ≤ period' → arrivals t period' ≤ arrivals t period
arrivals_fall t period period' pos le =
    arrivals_least period' t (arrivals t period) (le_trans pos le)
    (le_trans (arrivals_cover period t pos) (mul-le-mul_left (arrivals t period) le))

-- no more arrivals than microseconds
pub arrivals_le : (period t : ℕ) → arrivals t period ≤ t
unfolding arrivals
arrivals_le period t =
    ⊎_elim
    (λ z. rw z (le_trans (le_of_eq (div-zero _)) (omega arith)))
    (λ pos. arrivals_least period t t pos (le-mul_of_pos_right t pos))
    (eq-zero-or-pos period)

module _ (own : ℕ) (period charge : ℕ → ℕ) where
  pub need_mono : (n s t : ℕ) → s ≤ t → need own period charge n s ≤ need own period charge n t
  unfolding need
  need_mono zero s t h = le_refl own
  need_mono (suc n) s t h =
      add-le-add (need_mono n s t h) (mul-le-mul_right (charge n) (arrivals_mono (period n) s t h))

  pub own_le : (n t : ℕ) → own ≤ need own period charge n t
  unfolding need
  own_le zero t = le_refl own
  own_le (suc n) t = omega (arith, own_le n t)

  -- one row more
  pub need_next : (n t : ℕ) → need own period charge (n + 1) t ≡ need own period charge n t + arrivals t (period n) * charge n
  unfolding need
  need_next n t = rw (add-one n)

  -- charges of at most k
  pub need_le : (k n t : ℕ) → ((j : ℕ) → j < n → charge j ≤ k) → need own period charge n t ≤ own + n * (t * k)
  unfolding need
  need_le k zero t h = omega arith
  need_le k (suc n) t h =
      let rest = need_le k n t (λ j l. h j (omega arith)) in
      let one = mul-le-mul (arrivals_le (period n) t) (h n (omega arith)) in
      omega (arith, rest, one, suc-mul n (t * k))

-- less to do at the same periods
pub need_less : (own own' : ℕ) (period period' charge charge' : ℕ → ℕ) (n t : ℕ) → own' ≤ own
    → ((j : ℕ) → j < n → (period' j ≡ period j) × (charge' j ≤ charge j))
    → need own' period' charge' n t ≤ need own period charge n t
unfolding need
need_less own own' period period' charge charge' zero t h f = h
need_less own own' period period' charge charge' (suc n) t h f =
    let last = f n (omega arith) in
    add-le-add (need_less own own' period period' charge charge' n t h (λ j l. f j (omega arith)))
    (rw last.0 (mul-le-mul_left (arrivals t (period n)) last.1))

-- the same at each row
pub need_same : (own : ℕ) (period period' charge charge' : ℕ → ℕ) (n t : ℕ) → ((j : ℕ) → j < n → (period' j ≡ period j) × (charge' j ≡ charge j))
    → need own period' charge' n t ≡ need own period charge n t
unfolding need
need_same own period period' charge charge' zero t f = refl
need_same own period period' charge charge' (suc n) t f =
    let last = f n (omega arith) in
    rw (need_same own period period' charge charge' n t (λ j l. f j (omega arith)), last.0, last.1)
