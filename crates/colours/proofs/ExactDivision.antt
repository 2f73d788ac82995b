-- Dividing by 4,096 and then by the ways is dividing by their product: the quotient, and whether it is exact.
use Prim.Native.Nat.{ℕ, ◌*◌, ◌/◌, ◌%◌, ◌<◌}
use native.Mathlib.Nat.{mul_comm, div-div-eq-div-mul, eq-zero-or-pos, mul-pos}
use native.Mathlib.Omega.{arith}
use mathlib.Core.Logic.{⊎_elim}
use mathlib.Core.Path.{◌≡◌, ◌∙◌}
use lib.Arith.{mod-mul}

pub two_divisions : (b w k : ℕ) → b / k / w ≡ b / (w * k)
two_divisions b w k = div-div-eq-div-mul b k w ∙ rw (mul_comm k w)

pub exact : (b w k : ℕ) → 0 < w → 0 < k → b % k ≡ 0 → b / k % w ≡ 0 → b % (w * k) ≡ 0
exact b w k hw hk low high = mod-mul b hw hk ∙ rw (low, high) (omega arith)

pub inexact_low : (b w k : ℕ) → 0 < w → 0 < k → (b % k ≡ 0 → ⊥) → b % (w * k) ≡ 0 → ⊥
inexact_low b w k hw hk low e = low (omega (arith, mod-mul b hw hk))

pub inexact_high : (b w k : ℕ) → 0 < w → 0 < k → (b / k % w ≡ 0 → ⊥) → b % (w * k) ≡ 0 → ⊥
inexact_high b w k hw hk high e =
    ⊎_elim high (λ l. omega (arith, mod-mul b hw hk, mul-pos l hk)) (eq-zero-or-pos (b / k % w))
