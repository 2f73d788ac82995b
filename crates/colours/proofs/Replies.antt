-- When cache sizes, layout and bleaching are answered, and what an answer tells.
use Prim.Native.Nat.{ℕ, ◌-◌, ◌*◌, ◌/◌, ◌%◌, ◌^◌, ◌<◌, ◌≤◌}
use native.Mathlib.Nat.{add-zero, mul-mod_left, mul-div_cancel, div-add-mod', pos_of_ne-zero}
use native.Mathlib.Omega.{arith}
use mathlib.Core.Bool.{true, not}
use mathlib.Core.List.{[], ◌∷◌}
use mathlib.Core.Logic.{◌↔◌}
use mathlib.Core.Path.{◌≡◌, sym, ap, ◌∙◌}
use lib.Dec.{eqb, ltb}
use borrow.Author.Tests.{le-ltb, ne_eqb, eqb-true, eqb-false, not-false}
use Rattle.refusal.specs.Reply.{Answers, test, unless}
use Rattle.refusal.proofs.Replies.{passed_first, answers_passed}
use Rattle.colours.specs.Sets.{is_colour_set, has}
use Rattle.colours.specs.Cache.{is_colour_count, count_test, cache_reply, colour_of}
use Rattle.colours.specs.Pages.{set_test, layout_page, layout_reply, bleach_index, bleach_reply}

-- N colours are answered just for N × W × 4,096 bytes
cache_answers : (b w n : ℕ) → 0 < w → is_colour_count n ≡ true → b ≡ n * (w * 4096) → cache_reply b w ≡ Answers n
unfolding cache_reply unless
cache_answers b w n some count e =
    let way : 0 < w * 4096 = omega arith in
    let not_0 : w ≡ 0 → ⊥ = omega arith in
    rw e (simp (ne_eqb w 0 not_0, mul-mod_left n (w * 4096), mul-div_cancel n way, count))

cache_answered : (b w n : ℕ) → cache_reply b w ≡ Answers n → (0 < w) × (is_colour_count n ≡ true) × (b ≡ n * (w * 4096))
unfolding cache_reply
cache_answered b w n e =
    let k : ℕ = w * 4096 in
    let t = answers_passed (test 2 (eqb w 0) ∷ test 2 (not (eqb (b % k) 0)) ∷ count_test (b / k) ∷ []) (b / k) n e in
    let ways = passed_first _ _ t.0 in
    let exactly = passed_first _ _ ways.1 in
    let count = (passed_first _ _ exactly.1).0 in
    let none : b % k ≡ 0 = eqb-true (b % k) 0 (not-false (eqb (b % k) 0) exactly.0) in (
      pos_of_ne-zero (eqb-false w 0 ways.0),
      ap is_colour_count (sym t.1) ∙ not-false (is_colour_count (b / k)) count,
      sym (div-add-mod' b k) ∙ rw (none, t.1) (add-zero (n * k)),
    )

pub cache_iff :
    (b w n : ℕ) → (cache_reply b w ≡ Answers n) ↔ ((0 < w) × (is_colour_count n ≡ true) × (b ≡ n * (w * 4096)))
cache_iff b w n = (λ e. cache_answered b w n e, λ r. cache_answers b w n r.0 r.1 r.2)

module _ (n s : ℕ) (count : is_colour_count n ≡ true) (set : is_colour_set n s ≡ true) where
  pub layout_answers : (i : ℕ) → i ≤ 2 ^ 24 - 1 → layout_reply n s i ≡ Answers (layout_page n s i)
  unfolding layout_reply unless
  layout_answers i h = simp (count, set, le-ltb (2 ^ 24 - 1) i h)

  pub bleach_answers : (p : ℕ) → p ≤ 2 ^ 28 - 1 → has s (colour_of n p) ≡ true → bleach_reply n s p ≡ Answers (bleach_index n s p)
  unfolding bleach_reply unless
  bleach_answers p h member = simp (count, set, le-ltb (2 ^ 28 - 1) p h, member)

-- bleaching answers only where the set is accepted and has the page's colour, and then with the index
pub record BleachAnswered (n s p i : ℕ) : Type 0 where
  pub set : is_colour_set n s ≡ true
  pub member : has s (colour_of n p) ≡ true
  pub index : bleach_index n s p ≡ i

pub bleach_answered : (n s p i : ℕ) → bleach_reply n s p ≡ Answers i → BleachAnswered n s p i
unfolding bleach_reply
bleach_answered n s p i e =
    let t = answers_passed (count_test n ∷ set_test n s ∷ test 10 (ltb (2 ^ 28 - 1) p) ∷ test 11 (not (has s (colour_of n p))) ∷ []) (bleach_index n s p) i e in
    let nine = passed_first _ _ (passed_first _ _ t.0).1 in
    let eleven = passed_first _ _ (passed_first _ _ nine.1).1 in
    record { set = not-false (is_colour_set n s) nine.0; member = not-false (has s (colour_of n p)) eleven.0; index = t.1 }
