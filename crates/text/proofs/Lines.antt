-- Texts written one after another are written as one, and a text that fits stands in front of what was there. The lines of the rows so far, and one more.
use Prim.Native.Nat.{ℕ, zero, suc, ◌+◌, ◌<◌, ◌≤◌, min}
use native.Mathlib.Nat.{not-suc-le-zero}
use native.Mathlib.Omega.{arith}
use mathlib.Core.List.{List, [], ◌∷◌, ◌++◌, append_assoc}
use mathlib.Core.Path.{◌≡◌, sym, ap, ◌∙◌}
use lib.ListN.{length, take, drop, set, get_or, length-append}
use lib.Seq.{sets, sets-eq}
use Rattle.std.proofs.lemmas.List.{append-nil}
use Rattle.text.specs.Text.{decimal, line, lines_from, admitted_lines, over, most_vcpus, most_tasks, vcpu_part, task_part}

-- the place where the second of two texts begins
pub sets_append : (xs ys l : List ℕ) (i k : ℕ) → k ≡ i + length xs → sets (sets l i xs) k ys ≡ sets l i (xs ++ ys)
sets_append [] ys l i k e = ap (λ (n : ℕ). sets l n ys) (omega (arith, e))
sets_append (x ∷ xs) ys l i k e = sets_append xs ys (set l i x) (suc i) k (omega (arith, e))

pub sets_over : (xs l : List ℕ) → length xs ≤ length l → sets l 0 xs ≡ over xs l
sets_over xs l h =
    let e : 0 + length xs ≡ length xs = omega arith in
    sets-eq xs l 0 (omega arith) ∙ ap (λ (k : ℕ). xs ++ drop k l) e

pub line_size : (name : List ℕ) (a b : ℕ) → length (line name a b) ≡ length name + length (decimal a) + length (decimal b) + 2
unfolding line
line_size name a b =
    let inner : length (decimal b ++ (10 ∷ [])) ≡ length (decimal b) + 1 = length-append (decimal b) (10 ∷ []) in
    let outer : length (decimal a ++ (32 ∷ (decimal b ++ (10 ∷ [])))) ≡ length (decimal a) + suc (length (decimal b ++ (10 ∷ []))) = length-append (decimal a) (32 ∷ (decimal b ++ (10 ∷ []))) in
    length-append name (decimal a ++ (32 ∷ (decimal b ++ (10 ∷ [])))) ∙ omega (arith, inner, outer)

-- one line more
pub lines_more : (name times : List ℕ) (first i : ℕ) → i < length times
    → lines_from name first (take (i + 1) times) ≡ lines_from name first (take i times) ++ line name (first + i) (get_or times i 0)
unfolding lines_from
lines_more name [] first i h = absurd (not-suc-le-zero h)
lines_more name (time ∷ times) first zero h =
    let same : first + 0 ≡ first = omega arith in rw same (append-nil (line name first time))
lines_more name (time ∷ times) first (suc i) h =
    let next : suc i + 1 ≡ suc (i + 1) = omega arith in
    let same : first + 1 + i ≡ first + suc i = omega arith in
    rw (next, lines_more name times (first + 1) i (omega arith), same) (sym (append_assoc (line name first time) _ _))

-- of no more times than there can be, all
pub few_lines : (v t : ℕ) (times : List ℕ) → v ≤ most_vcpus → t ≤ most_tasks
    → admitted_lines (vcpu_part v times) (task_part v t times) ≡ admitted_lines (take v times) (take t (drop v times))
few_lines v t times l h =
    let vcpus : min v most_vcpus ≡ v = omega arith in
    let tasks : min t most_tasks ≡ t = omega arith in
    rw (vcpus, tasks)
