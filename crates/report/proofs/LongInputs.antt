-- The first 2,873 bytes of an input tell its verdict: a plan has at most 718 words, so that an input of 2,873 bytes or more is none, and
-- neither are its first 2,873 bytes.
use Prim.Native.Nat.{ℕ, ◌*◌, ◌≤◌}
use native.Mathlib.Omega.{arith}
use mathlib.Core.Bool.{true, false}
use mathlib.Core.List.{List}
use mathlib.Core.Path.{◌≡◌, refl, sym, ap, ◌∙◌}
use lib.ListN.{length, take}
use lib.Seq.{take_all, length-take-le}
use borrow.Author.Tests.{ne_eqb}
use Rattle.lists.proofs.CaseSplits.{cases, below_or_not}
use Rattle.report.specs.Input.{domain_count, vcpu_count, task_count, plan_words, over_limit}
use Rattle.report.specs.Report.{not_a_plan, text_of}
use Rattle.report.proofs.Verdict.{limits, refused_1}

few_words : (input : List ℕ) → over_limit input ≡ false → plan_words input ≤ 718
unfolding over_limit plan_words
few_words input e = omega (arith, limits (domain_count input) (vcpu_count input) (task_count input) e)

pub too_long : (input : List ℕ) → 2873 ≤ length input → not_a_plan input ≡ true
unfolding not_a_plan
too_long input h =
    cases (over_limit input) (λ e. rw e refl)
    (λ e. rw (e, ne_eqb (length input) (4 * plan_words input) (λ l. omega (arith, l, few_words input e))) refl)

-- as many bytes, or more, keep the text of the whole input
pub kept_tells : (n : ℕ) (input : List ℕ) → 2873 ≤ n → text_of (take n input) ≡ text_of input
kept_tells n input h =
    below_or_not n (length input)
    (λ l. let long : length (take n input) ≡ n = length-take-le n input (omega arith) in (refused_1 (take n input) (too_long (take n input) (omega arith))).1 ∙ sym (refused_1 input (too_long input (omega arith))).1)
    (λ l. ap text_of (take_all n input l))

-- the program keeps 2,873 bytes
pub first_bytes_tell : (input : List ℕ) → text_of (take 2873 input) ≡ text_of input
first_bytes_tell input = kept_tells 2873 input (omega arith)
