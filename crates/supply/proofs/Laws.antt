-- The laws of supply: `first_supply x` is the first time with supply x, and from that the supply never falls, is at most the time, and
-- grows by at most 1 a microsecond.
use Prim.Native.Nat.{ℕ, suc, ◌+◌, ◌-◌, ◌*◌, ◌/◌, ◌%◌, ◌<◌, ◌≤◌}
use native.Mathlib.Nat.{zero-div, zero-mod, mod-lt, div-add-mod', suc-mul, mul-le-mul_right, mul-le-mul_left, lt_irrefl, lt_of_lt_of_le, le_refl, le_trans}
use native.Mathlib.Omega.{arith}
use mathlib.Core.Path.{◌≡◌, ap, ◌∙◌}
use lib.Arith.{digits_div, digits_mod}
use Rattle.lists.proofs.CaseSplits.{below_or_not}
use Rattle.supply.specs.Supply.{supply, first_supply, Budget}

-- a < c: k more than a times k is at most c times k
next_mul : (a c k : ℕ) → a < c → a * k + k ≤ c * k
next_mul a c k h = omega (arith, suc-mul a k, mul-le-mul_right k h)

-- in a rows of q and k rows of q, with the products as they stand: x is the (r + 1)-th unit after a budgets, and m the time after k periods
covered : (a k g r m p q : ℕ) → p ≡ g + q → r < q → m < p → a * q + r + 1 ≤ k * q + (m - g) → a * p + (g + r + 1) ≤ k * p + m
covered a k g r m p q e hr hm h =
    below_or_not a k
    (λ l. omega (arith, next_mul a k p l))
    (λ l.
    below_or_not k a
    (λ j. absurd (lt_irrefl 0 (omega (arith, next_mul k a q j))))
    (λ j. let same : a ≡ k = omega arith in omega (arith, ap (λ (x : ℕ). x * p) same, ap (λ (x : ℕ). x * q) same)))

reached : (a k g r m p q : ℕ) → p ≡ g + q → r < q → m < p → a * p + (g + r + 1) ≤ k * p + m → a * q + r + 1 ≤ k * q + (m - g)
reached a k g r m p q e hr hm h =
    below_or_not a k
    (λ l. omega (arith, next_mul a k q l))
    (λ l.
    below_or_not k a
    (λ j. absurd (lt_irrefl 0 (omega (arith, next_mul k a p j))))
    (λ j. let same : a ≡ k = omega arith in omega (arith, ap (λ (x : ℕ). x * p) same, ap (λ (x : ℕ). x * q) same)))

module _ {p q : ℕ} (b : Budget p q) where
  p_pos : 0 < p
  p_pos = lt_of_lt_of_le b.some b.within

  gap_is : p ≡ (p - q) + q
  gap_is = omega (arith, b.within)

  pub supply_early : (t : ℕ) → t ≤ p - q → supply p q t ≡ 0
  unfolding supply
  supply_early t h = let u : t - (p - q) ≡ 0 = omega arith in rw (u, zero-div p, zero-mod p) (omega arith)

  -- x by the budgets before its unit
  units : (x : ℕ) → 0 < x → (x - 1) / q * q + (x - 1) % q + 1 ≡ x
  units x h = omega (arith, div-add-mod' (x - 1) q)

  -- the first time with supply x has it, and no earlier one
  pub first_le : (x t : ℕ) → 0 < x → x ≤ supply p q t → first_supply p q x ≤ t
  unfolding supply first_supply
  first_le x t pos h =
      let u : ℕ = t - (p - q) in
      let some : p - q < t = below_or_not (p - q) t (λ l. l) (λ l. absurd (lt_irrefl 0 (omega (arith, supply_early t l)))) in
      let c = covered ((x - 1) / q) (u / p) (p - q) ((x - 1) % q) (u % p) p q gap_is (mod-lt (x - 1) b.some) (mod-lt u p_pos) (rw (units x pos) h) in
      omega (arith, c, div-add-mod' u p)

  pub le_supply : (x t : ℕ) → 0 < x → first_supply p q x ≤ t → x ≤ supply p q t
  unfolding supply first_supply
  le_supply x t pos h =
      let u : ℕ = t - (p - q) in
      let c = reached ((x - 1) / q) (u / p) (p - q) ((x - 1) % q) (u % p) p q gap_is (mod-lt (x - 1) b.some) (mod-lt u p_pos) (omega (arith, div-add-mod' u p)) in
      rw (← (units x pos)) c

  pub le_first : (x : ℕ) → 0 < x → x ≤ first_supply p q x
  unfolding first_supply
  le_first x pos = omega (arith, units x pos, mul-le-mul_left ((x - 1) / q) b.within)

  -- the supply is at most the time
  pub supply_le : (t : ℕ) → supply p q t ≤ t
  supply_le t =
      below_or_not 0 (supply p q t)
      (λ l. omega (arith, first_le (supply p q t) t l (le_refl (supply p q t)), le_first (supply p q t) l))
      (λ l. omega arith)

  -- it never falls
  pub supply_mono : (t u : ℕ) → t ≤ u → supply p q t ≤ supply p q u
  supply_mono t u h =
      below_or_not 0 (supply p q t)
      (λ l. le_supply (supply p q t) u l (omega (arith, first_le (supply p q t) t l (le_refl (supply p q t)))))
      (λ l. omega arith)

  pub first_mono : (x y : ℕ) → 0 < x → x ≤ y → first_supply p q x ≤ first_supply p q y
  first_mono x y pos h =
      first_le x (first_supply p q y) pos (le_trans h (le_supply y (first_supply p q y) (omega arith) (le_refl (first_supply p q y))))

  -- each unit has a microsecond of its own
  first_next : (x : ℕ) → 0 < x → first_supply p q x + 1 ≤ first_supply p q (x + 1)
  unfolding first_supply
  first_next x pos =
      let a : ℕ = (x - 1) / q in
      let r : ℕ = (x - 1) % q in
      let y : x + 1 - 1 ≡ x = omega arith in
      let low = mod-lt (x - 1) b.some in
      below_or_not (r + 1) q
      (λ l.
      let is : x ≡ a * q + (r + 1) = omega (arith, units x pos) in
      let row : x / q ≡ a = ap (λ (z : ℕ). z / q) is ∙ digits_div a l in
      let place : x % q ≡ r + 1 = ap (λ (z : ℕ). z % q) is ∙ digits_mod a l in
      rw (y, row, place) (omega arith))
      (λ l.
      let is : x ≡ suc a * q + 0 = omega (arith, units x pos, suc-mul a q) in
      let row : x / q ≡ suc a = ap (λ (z : ℕ). z / q) is ∙ digits_div (suc a) b.some in
      let place : x % q ≡ 0 = ap (λ (z : ℕ). z % q) is ∙ digits_mod (suc a) b.some in
      rw (y, row, place) (omega (arith, suc-mul a p, b.within)))

  -- it grows by at most 1 a microsecond
  pub supply_step : (t : ℕ) → supply p q (t + 1) ≤ supply p q t + 1
  supply_step t =
      let x : ℕ = supply p q t + 1 in
      below_or_not x (supply p q (t + 1))
      (λ l.
      let late = first_le (x + 1) (t + 1) (omega arith) (omega arith) in
      let early = le_supply x t (omega arith) (omega (arith, late, first_next x (omega arith))) in
      absurd (lt_irrefl 0 (omega (arith, early))))
      (λ l. l)

-- a larger budget with the same period has each amount no later
first_budget : (p q q' x : ℕ) → Budget p q → q ≤ q' → q' ≤ p → 0 < x → first_supply p q' x ≤ first_supply p q x
unfolding first_supply
first_budget p q q' x b le within pos =
    let y : ℕ = x - 1 in
    let a : ℕ = y / q in
    let c : ℕ = y / q' in
    let low = mod-lt y b.some in
    let low' = mod-lt y (lt_of_lt_of_le b.some le) in
    let is = div-add-mod' y q in
    let is' = div-add-mod' y q' in
    below_or_not c a
    (λ l. omega (arith, next_mul c a p l))
    (λ l.
    below_or_not a c
    (λ m. absurd (lt_irrefl 0 (omega (arith, next_mul a c q m, mul-le-mul_left c le))))
    (λ m.
    let same : a ≡ c = omega arith in
    omega (arith, ap (λ (z : ℕ). z * p) same, ap (λ (z : ℕ). z * q') same, mul-le-mul_left a le)))

pub supply_budget : (p q q' t : ℕ) → Budget p q → q ≤ q' → q' ≤ p → supply p q t ≤ supply p q' t
supply_budget p q q' t b le within =
    let b' : Budget p q' = record { some = lt_of_lt_of_le b.some le; within = within } in
    let x : ℕ = supply p q t in
    below_or_not 0 x
    (λ pos. le_supply b' x t pos (le_trans (first_budget p q q' x b le within pos) (first_le b x t pos (le_refl x))))
    (λ none. omega arith)
