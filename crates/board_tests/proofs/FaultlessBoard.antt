-- A board with no domain at fault, gone over once: the union of the grants so far stands for each of them.
use Prim.Native.Nat.{ℕ, ◌+◌, ◌*◌, ◌/◌, ◌%◌, ◌^◌, ◌<◌, ◌≤◌, zero-le, min, max}
use native.Mathlib.Nat.{lt_irrefl, max-le, le-max_left, div-mul-le_self, le-div_iff_mul-le}
use native.Mathlib.Omega.{arith}
use mathlib.Core.Bool.{true, false, not, ◌&&◌}
use mathlib.Core.Path.{◌≡◌, sym, ap, ◌∙◌}
use lib.Arith.{bin_ind}
use lib.Bits.{bit_and, bit_or, and_step, or_step, or_shr, or_comm, and_comm, or_add_and, and_le_r}
use lib.Dec.{eqb}
use lib.Pow.{pow_pos}
use borrow.Author.Tests.{eq-eqb, ne_eqb, eqb-true, eqb-false, not-false}
use Rattle.lists.proofs.CaseSplits.{cases, below_or_not, and_both, neither}
use Rattle.lists.proofs.Searches.{none_any}
use Rattle.lists.proofs.Finds.{none_found}
use Rattle.refusal.specs.Reply.{Answers, unless}
use Rattle.colours.specs.Sets.{is_colour_set}
use Rattle.board.specs.declared.Board.{Board}
use Rattle.board.specs.Tests.{grant, active_set, shares, bad_grant, shares_with_another, bad_active, domain_tests}
use Rattle.board_tests.proofs.DomainFaults.{none_refused}

-- a set meets a union where it meets a part
meets : (x a b : ℕ) → bit_and x a ≤ bit_and x (bit_or a b)
meets =
    bin_ind (λ (x : ℕ). (a b : ℕ) → bit_and x a ≤ bit_and x (bit_or a b)) (λ a b. zero-le)
    (λ x ih a b.
    let half : bit_or a b / 2 ≡ bit_or (a / 2) (b / 2) = or_shr a b 1 in
    let top : max (a % 2) (b % 2) ≤ 1 = max-le (omega arith) (omega arith) in
    let low : bit_or a b % 2 ≡ max (a % 2) (b % 2) = omega (arith, or_step a b) in
    let both : bit_and x (bit_or a b) ≡ bit_and (x / 2) (bit_or (a / 2) (b / 2)) * 2 + min (x % 2) (max (a % 2) (b % 2)) = and_step x (bit_or a b) ∙ rw (half, low) in
    omega (arith, and_step x a, both, ih (a / 2) (b / 2), le-max_left (a % 2) (b % 2)))

apart_left : (x a b : ℕ) → bit_and x (bit_or a b) ≡ 0 → bit_and x a ≡ 0
apart_left x a b e = omega (arith, meets x a b)

apart_right : (x a b : ℕ) → bit_and x (bit_or a b) ≡ 0 → bit_and x b ≡ 0
apart_right x a b e = let f : bit_and x (bit_or b a) ≡ 0 = ap (bit_and x) (or_comm b a) ∙ e in omega (arith, meets x b a)

union_left : (a b : ℕ) → a ≤ bit_or a b
union_left a b = omega (arith, or_add_and a b, and_le_r a b)

union_right : (a b : ℕ) → b ≤ bit_or a b
union_right a b = omega (arith, or_comm a b, union_left b a)

-- no domain below d has a fault, but for a bit at N or above, and s is the union of their grants
pub record InOrderTo (b : Board) (d s : ℕ) : Type 0 where
  pub sets : (e : ℕ) → e < d → bad_active b e ≡ false
  pub apart : (e f : ℕ) → e < f → f < d → bit_and (grant b f) (grant b e) ≡ 0
  pub inside : (e x : ℕ) → e < d → bit_and x s ≡ 0 → bit_and x (grant b e) ≡ 0
  pub below : (e : ℕ) → e < d → grant b e ≤ s

pub passed_none : (b : Board) → InOrderTo b 0 0
passed_none b =
    record {
      sets = λ e l. absurd (lt_irrefl e (omega arith));
      apart = λ e f l h. absurd (lt_irrefl f (omega arith));
      inside = λ e x l z. absurd (lt_irrefl e (omega arith));
      below = λ e l. absurd (lt_irrefl e (omega arith));
    }

-- what holds of each below d, and of d, holds of each below d + 1
one_more : (P : ℕ → Type 0) (d e : ℕ) → e < d + 1 → (e < d → P e) → P d → P e
one_more P d e l before here = below_or_not e d before (λ h. let same : e ≡ d = omega arith in rw same here)

pub passed_next :
    (b : Board) (d s : ℕ)
    → InOrderTo b d s
    → bad_active b d ≡ false
    → bit_and (grant b d) s ≡ 0
    → InOrderTo b (d + 1) (bit_or s (grant b d))
passed_next b d s p set free =
    let g : ℕ = grant b d in
    record {
      sets = λ e l. one_more (λ (i : ℕ). bad_active b i ≡ false) d e l (p.sets e) set;
      apart = λ e f l h. one_more (λ (i : ℕ). e < i → bit_and (grant b i) (grant b e) ≡ 0) d f h (λ m k. p.apart e f k m) (λ k. p.inside e g k free) l;
      inside = λ e x l z. one_more (λ (i : ℕ). bit_and x (grant b i) ≡ 0) d e l (λ m. p.inside e x m (apart_left x s g z)) (apart_right x s g z);
      below = λ e l. one_more (λ (i : ℕ). grant b i ≤ bit_or s g) d e l (λ m. omega (arith, p.below e m, union_left s g)) (union_right s g);
    }

module _ (b : Board) (s : ℕ) (p : InOrderTo b b.domains s) (c : is_colour_set b.colours s ≡ true) where
  granted : (d : ℕ) → d < b.domains → bad_grant b d ≡ false
  unfolding is_colour_set
  granted d l =
      let g : ℕ = grant b d in
      let a : ℕ = active_set b d in
      let set = neither (eqb a 0) (not (eqb (bit_and a g) a)) (p.sets d l) in
      let some = eqb-false a 0 set.0 in
      let within : bit_and a g ≡ a = eqb-true (bit_and a g) a (not-false (eqb (bit_and a g) a) set.1) in
      let none : s / 2 ^ b.colours ≡ 0 = eqb-true _ _ (and_both (not (eqb s 0)) _ c).1 in
      let low : g / 2 ^ b.colours ≤ s / 2 ^ b.colours = (le-div_iff_mul-le (pow_pos b.colours)).1 (omega (arith, div-mul-le_self g (2 ^ b.colours), p.below d l)) in
      rw (ne_eqb g 0 (λ z. some (omega (arith, and_le_r a g))), eq-eqb (g / 2 ^ b.colours) 0 (omega arith))

  not_shared : (d : ℕ) → d < b.domains → shares_with_another b d ≡ false
  not_shared d l =
      none_any (λ (e : ℕ). not (eqb e d) && shares (grant b d) (grant b e)) b.domains
      (λ e high.
      cases (eqb e d) (λ q. rw q)
      (λ q.
      let free : bit_and (grant b d) (grant b e) ≡ 0 =
      below_or_not e d (λ h. p.apart e d h l)
      (λ h. and_comm (grant b d) (grant b e) ∙ p.apart d e (omega (arith, eqb-false e d q)) (omega arith)) in
      rw (q, eq-eqb _ _ free)))

  pub in_order_reply : Answers tt ≡ unless {A = Unit {0}} (domain_tests b) tt
  in_order_reply =
      let n : ℕ = b.domains in
      sym (none_refused b (none_found (bad_grant b) n granted) (none_found (shares_with_another b) n not_shared) (none_found (bad_active b) n p.sets))
