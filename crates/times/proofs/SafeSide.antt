-- Document 02, No. 3 is on the safe side: an arrival reloads at least the colours that it shares with any one task up to the task in question,
-- so that no time is earlier than by the pairwise rule.
use Prim.Native.Nat.{ℕ, zero, suc, ◌+◌, ◌-◌, ◌*◌, ◌/◌, ◌%◌, ◌<◌, ◌≤◌, min, max}
use native.Mathlib.Nat.{le_refl, le_trans, lt_irrefl, add-le-add, mul-le-mul_left, max-le, le-max_left}
use native.Mathlib.Omega.{arith}
use mathlib.Core.List.{List}
use mathlib.Core.Path.{◌≡◌, refl, ◌∙◌}
use lib.Arith.{bin_ind}
use lib.Bits.{bit_and, bit_or, and_step, or_step, or_shr, or_comm}
use lib.Count.{ones, ones_step}
use lib.Dec.{leb}
use borrow.Author.Tests.{leb-true, le-leb}
use Rattle.lists.proofs.CaseSplits.{below_or_not}
use Rattle.supply.specs.Supply.{supply}
use Rattle.rows.specs.RowWords.{task_period, deadline, colour_set, cost}
use Rattle.rows.specs.Reload.{held_from, reloaded, arrival_charge}
use Rattle.rows.proofs.Charging.{reloaded_is}
use Rattle.times.specs.FirstTime.{NoLater}
use Rattle.times.specs.Times.{task_need, time_in_part}
use Rattle.times.specs.Pairwise.{colours_shared, pairwise_need, pairwise_time}
use Rattle.times.proofs.Needs.{need_less}
use Rattle.times.proofs.Planner.{no_later}

-- a set has no fewer elements in a union than in a part of it
in_union : (x a b : ℕ) → ones (bit_and x a) ≤ ones (bit_and x (bit_or a b))
in_union =
    bin_ind (λ (x : ℕ). (a b : ℕ) → ones (bit_and x a) ≤ ones (bit_and x (bit_or a b))) (λ a b. le_refl (ones 0))
    (λ x ih a b.
    let half : bit_or a b / 2 ≡ bit_or (a / 2) (b / 2) = or_shr a b 1 in
    let top : max (a % 2) (b % 2) ≤ 1 = max-le (omega arith) (omega arith) in
    let low : bit_or a b % 2 ≡ max (a % 2) (b % 2) = omega (arith, or_step a b) in
    let part : bit_and x a / 2 ≡ bit_and (x / 2) (a / 2) = omega (arith, and_step x a) in
    let both : bit_and x (bit_or a b) ≡ bit_and (x / 2) (bit_or (a / 2) (b / 2)) * 2 + min (x % 2) (max (a % 2) (b % 2)) = and_step x (bit_or a b) ∙ rw (half, low) in
    let whole : bit_and x (bit_or a b) / 2 ≡ bit_and (x / 2) (bit_or (a / 2) (b / 2)) = omega (arith, both) in
    omega (arith, and_step x a, both, rw part at (ones_step (bit_and x a)), rw whole at (ones_step (bit_and x (bit_or a b))), ih (a / 2) (b / 2), le-max_left (a % 2) (b % 2)))

-- a row among those of the union
row_in_union : (tasks : List ℕ) (x m n k : ℕ) → k ≤ m → m < k + n → ones (bit_and x (colour_set tasks m)) ≤ ones (bit_and x (held_from tasks k n))
unfolding held_from
row_in_union tasks x m zero k l h = absurd (lt_irrefl m (omega arith))
row_in_union tasks x m (suc n) k l h =
    let here : ℕ = colour_set tasks k in
    let rest : ℕ = held_from tasks (suc k) n in
    below_or_not k m
    (λ b. le_trans (row_in_union tasks x m n (suc k) b (omega arith)) (rw (or_comm here rest) (in_union x rest here)))
    (λ b. let same : m ≡ k = omega arith in rw same (in_union x here rest))

-- the task in question, or one between
pub shared_are_reloaded : (part : List ℕ) (i j k : ℕ) → j < k → k ≤ i → colours_shared part k j ≤ reloaded part i j
unfolding colours_shared
shared_are_reloaded part i j k h l = rw (reloaded_is part i j) (row_in_union part (colour_set part j) k (i - j) (suc j) h (omega arith))

pub no_earlier_than_pairwise : (p q reload : ℕ) (part : List ℕ) (i : ℕ) → NoLater (time_in_part p q reload part i) (pairwise_time p q reload part i)
unfolding time_in_part pairwise_time task_need pairwise_need arrival_charge
no_earlier_than_pairwise p q reload part i =
    let needs : (t : ℕ) → pairwise_need reload part i t ≤ task_need reload part i t = λ t.
    need_less (cost part i) (cost part i) (task_period part) (task_period part) (arrival_charge reload part i) (λ (j : ℕ). cost part j + reload * colours_shared part i j) i t (le_refl (cost part i))
    (λ j l. (refl, add-le-add (le_refl (cost part j)) (mul-le-mul_left reload (shared_are_reloaded part i j i l (le_refl i))))) in
    no_later (λ (t : ℕ). leb (task_need reload part i t) (supply p q t)) (λ (t : ℕ). leb (pairwise_need reload part i t) (supply p q t)) (deadline part i)
    (λ t h e. le-leb _ _ (le_trans (needs t) (leb-true _ _ e)))
