-- Decimal numbers: the last digit follows the digits of a tenth, whatever room was given, and a number below 10 ^ k has at most k digits,
-- so that one of 32 bits has at most 10.
use Prim.Native.Nat.{ℕ, zero, suc, ◌+◌, ◌*◌, ◌/◌, ◌%◌, ◌^◌, ◌<◌, ◌≤◌}
use native.Mathlib.Nat.{not-suc-le-zero, pow-suc}
use native.Mathlib.Omega.{arith}
use mathlib.Core.List.{List, [], ◌∷◌, ◌++◌}
use mathlib.Core.Path.{◌≡◌, ap, ◌∙◌}
use lib.ListN.{length, length-append}
use borrow.Author.Tests.{lt-ltb, le-ltb}
use Rattle.lists.proofs.CaseSplits.{below_or_not}
use Rattle.text.specs.Text.{digits, decimal}

-- more room than the number changes nothing
enough : (f g n : ℕ) → n < f → n < g → digits f n ≡ digits g n
unfolding digits
enough zero g n h k = absurd (not-suc-le-zero h)
enough (suc f) zero n h k = absurd (not-suc-le-zero k)
enough (suc f) (suc g) n h k =
    below_or_not n 10
    (λ l. simp (lt-ltb n 10 l))
    (λ l. simp (le-ltb n 10 l) (ap (λ (ds : List ℕ). ds ++ ((48 + n % 10) ∷ [])) (enough f g (n / 10) (omega arith) (omega arith))))

pub decimal_small : (n : ℕ) → n < 10 → decimal n ≡ (48 + n) ∷ []
unfolding decimal digits
decimal_small n h = simp (lt-ltb n 10 h)

pub decimal_more : (n : ℕ) → 10 ≤ n → decimal n ≡ decimal (n / 10) ++ ((48 + n % 10) ∷ [])
unfolding decimal digits
decimal_more n h =
    simp (le-ltb n 10 h) (ap (λ (ds : List ℕ). ds ++ ((48 + n % 10) ∷ [])) (enough n (suc (n / 10)) (n / 10) (omega arith) (omega arith)))

pub decimal_length_small : (n : ℕ) → n < 10 → length (decimal n) ≡ 1
decimal_length_small n h = ap length (decimal_small n h)

pub decimal_length_more : (n : ℕ) → 10 ≤ n → length (decimal n) ≡ length (decimal (n / 10)) + 1
decimal_length_more n h = ap (λ (ds : List ℕ). length ds) (decimal_more n h) ∙ length-append (decimal (n / 10)) ((48 + n % 10) ∷ [])

-- so many digits at most
pub decimal_length : (k n : ℕ) → n < 10 ^ k * 10 → length (decimal n) ≤ k + 1
decimal_length zero n h = rw (decimal_small n (omega arith)) (omega arith)
decimal_length (suc k) n h =
    below_or_not n 10
    (λ l. rw (decimal_small n l) (omega arith))
    (λ l. omega (arith, decimal_length_more n l, decimal_length k (n / 10) (omega (arith, powers k))))
  where
    powers : (k : ℕ) → 10 ^ suc k ≡ 10 ^ k * 10
    powers k = pow-suc 10 k

-- a number of 32 bits
pub decimal_short : (n : ℕ) → n < 4294967296 → length (decimal n) ≤ 10
decimal_short n h = decimal_length 9 n (omega arith)
