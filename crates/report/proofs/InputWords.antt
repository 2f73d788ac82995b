-- Words of the input, one by one, and the lists that they fill.
use Prim.Native.Nat.{ℕ, zero, suc, ◌+◌, ◌-◌, ◌*◌, ◌<◌, ◌≤◌}
use native.Mathlib.Omega.{arith}
use mathlib.Core.List.{List, ◌++◌}
use mathlib.Core.Path.{◌≡◌, ap, ◌∙◌}
use lib.ListN.{length, take, drop, get_or, replicate}
use lib.Seq.{length-take-le}
use Rattle.lists.proofs.WrittenLists.{length-table, table_entry}
use Rattle.board.specs.declared.Board.{Board}
use Rattle.admission.specs.Admission.{judged}
use Rattle.report.specs.Input.{word_in, words_in, domain_count, vcpu_count, task_count, grants, board_in, reload_in, vcpus_in, tasks_in}

pub length-words : (input : List ℕ) (n k : ℕ) → length (words_in input k n) ≡ n
unfolding words_in
length-words input n k = length-table (word_in input) n k

pub word_at : (input : List ℕ) (n k i : ℕ) → i < n → get_or (words_in input k n) i 0 ≡ word_in input (k + i)
unfolding words_in
word_at input n k i h = table_entry (word_in input) n k i h

-- as many zeros
zeros : (n m : ℕ) → n ≡ m → ◌≡◌ {A = List ℕ} (replicate n 0) (replicate m 0)
zeros n m e = ap (λ (k : ℕ). replicate k 0) e

pub drop_zeros : (d n : ℕ) → drop {A = ℕ} d (replicate n 0) ≡ replicate (n - d) 0
drop_zeros zero n = zeros n (n - 0) (omega arith)
drop_zeros (suc d) zero = zeros 0 (0 - suc d) (omega arith)
drop_zeros (suc d) (suc n) = drop_zeros d n ∙ zeros (n - d) (suc n - suc d) (omega arith)

-- a list that was read into the front of a longer one
list_read : (input list space : List ℕ) (k n : ℕ) → n ≤ length space → list ≡ words_in input k (length (take n space)) → list ≡ words_in input k n
list_read input list space k n h e = e ∙ ap (words_in input k) (length-take-le n space h)

module _ (input : List ℕ) (d : ℕ) (hd : d ≡ domain_count input) where
  pub grants_read : (list space : List ℕ) → d ≤ 8 → space ≡ replicate 8 0 → list ≡ words_in input 3 (length (take d space))
      → list ++ drop d space ≡ grants input
  unfolding grants
  grants_read list space h z r =
      let long : length space ≡ 8 = ap (λ (l : List ℕ). length l) z in
      let front : list ≡ words_in input 3 d = list_read input list space 3 d (omega arith) r in
      let back : drop d space ≡ replicate (8 - d) 0 = ap (λ (l : List ℕ). drop d l) z ∙ drop_zeros d 8 in
      rw (front, back, hd)

  pub reload_read : (reload : ℕ) → reload ≡ word_in input (3 + d) → reload ≡ reload_in input
  unfolding reload_in
  reload_read reload r = r ∙ rw hd

  module _ (v : ℕ) (hv : v ≡ vcpu_count input) where
    pub vcpus_read : (list space : List ℕ) → 4 * v ≤ length space → list ≡ words_in input (5 + d) (length (take (4 * v) space)) → list ≡ vcpus_in input
    unfolding vcpus_in
    vcpus_read list space h r = list_read input list space (5 + d) (4 * v) h r ∙ rw (hd, hv)

    pub tasks_read : (list space : List ℕ) (t : ℕ) → t ≡ task_count input → 20 * t ≤ length space
        → list ≡ words_in input (6 + d + 4 * v) (length (take (20 * t) space)) → list ≡ tasks_in input
    unfolding tasks_in
    tasks_read list space t ht h r = list_read input list space (6 + d + 4 * v) (20 * t) h r ∙ rw (hd, hv, ht)

-- admission of what was read is admission of the input
module _ (input : List ℕ) (b : Board) (reload : ℕ) (vcpus tasks : List ℕ) (hb : b ≡ board_in input) (hr : reload ≡ reload_in input) (hv : vcpus ≡ vcpus_in input) (ht : tasks ≡ tasks_in input) where
  pub same_judged : (times rounds : List ℕ) → judged b reload vcpus tasks times rounds ≡ judged (board_in input) (reload_in input) (vcpus_in input) (tasks_in input) times rounds
  same_judged times rounds = rw (hb, hr, hv, ht)
