-- The lent lists after admission: the times and the rounds of all rows in their fronts where the plan is admitted, and the lists as they were where it is refused.
use Prim.Native.Nat.{ℕ, ◌+◌}
use native.Mathlib.Nat.{zero-add}
use mathlib.Core.List.{List, ◌++◌, map}
use mathlib.Core.Path.{◌≡◌, refl, sym, ap, ◌∙◌}
use lib.ListN.{length, take, drop, length-append}
use Rattle.lists.specs.Range.{upto}
use Rattle.lists.proofs.WrittenLists.{length-table}
use Rattle.refusal.specs.Reply.{Reply, Answers, Refuses}
use Rattle.board.specs.declared.Board.{Board}
use Rattle.rows.specs.RowWords.{vcpu_rows, task_rows}
use Rattle.times.specs.Times.{task_time, vcpu_time}
use Rattle.times.specs.Rounds.{task_rounds, vcpu_rounds}
use Rattle.admission.specs.Admission.{microseconds, room_of, admission_reply, vcpu_times, task_times, all_times, all_rounds, leaving, judged_by, judged}
use Rattle.std.specs.Prelude.{None}
use Rattle.admission.specs.declared.row_times.RowTimes.{RowTimes}
use Rattle.admission.specs.RowTimes.{Recorded, Timed}

-- by a reply of admission
module _ (b : Board) (reload : ℕ) (vcpus tasks times rounds : List ℕ) where
  pub judged_by_lem : (reply : Reply (Unit {0})) → admission_reply b reload vcpus tasks (room_of times rounds) ≡ reply → judged_by reply reload vcpus tasks times rounds ≡ judged b reload vcpus tasks times rounds
  unfolding judged
  judged_by_lem reply e = ap (λ (p : Reply (Unit {0})). judged_by p reload vcpus tasks times rounds) (sym e)

-- a plan that is admitted: the lists got the words found in their fronts
pub fronts : (n reload : ℕ) (vcpus tasks times rounds found counts : List ℕ) (reply : Reply (Unit {0}))
    → take n found ≡ all_times reload vcpus tasks → length (all_times reload vcpus tasks) ≡ n → take n counts ≡ all_rounds reload vcpus tasks → length (all_rounds reload vcpus tasks) ≡ n
    → reply ≡ Answers tt → leaving (Answers tt) (take n found ++ drop n times) (take n counts ++ drop n rounds) ≡ judged_by reply reload vcpus tasks times rounds
fronts n reload vcpus tasks times rounds found counts reply t lt c lc ok = rw (ok, t, c, lt, lc)

-- a refusal leaves both lists as they were
pub refused : (reload : ℕ) (vcpus tasks times rounds : List ℕ) (reply : Reply (Unit {0})) (n r : ℕ) → reply ≡ Refuses n r
    → leaving (Refuses n r) times rounds ≡ judged_by reply reload vcpus tasks times rounds
refused reload vcpus tasks times rounds reply n r e = rw e

pub length-vcpu_times : (vcpus : List ℕ) → length (vcpu_times vcpus) ≡ vcpu_rows vcpus
unfolding vcpu_times
length-vcpu_times vcpus = length-table (λ (i : ℕ). microseconds (vcpu_time vcpus i)) (vcpu_rows vcpus) 0

pub length-task_times : (reload : ℕ) (vcpus tasks : List ℕ) → length (task_times reload vcpus tasks) ≡ task_rows tasks
unfolding task_times
length-task_times reload vcpus tasks = length-table (λ (j : ℕ). microseconds (task_time reload vcpus tasks j)) (task_rows tasks) 0

-- the numbers of the VCPUs, and after them those of the tasks
both_kept : {f g : ℕ → ℕ} {v n : ℕ} {blank known kept : List ℕ} → Recorded f 0 blank v known → Recorded g v known n kept
    → take (v + n) kept ≡ map f (upto v) ++ map g (upto n)
both_kept {v = v} k m = rw (rw (zero-add v) at k.front) at m.front

module _ (reload : ℕ) (vcpus tasks : List ℕ) where
  pub length-times : length (all_times reload vcpus tasks) ≡ vcpu_rows vcpus + task_rows tasks
  unfolding all_times
  length-times =
      length-append (vcpu_times vcpus) (task_times reload vcpus tasks) ∙ rw (length-vcpu_times vcpus, length-task_times reload vcpus tasks)

  pub length-rounds : length (all_rounds reload vcpus tasks) ≡ vcpu_rows vcpus + task_rows tasks
  unfolding all_rounds
  length-rounds =
      length-append (map (vcpu_rounds vcpus) (upto (vcpu_rows vcpus))) (map (task_rounds reload vcpus tasks) (upto (task_rows tasks)))
      ∙ rw (length-table (vcpu_rounds vcpus) (vcpu_rows vcpus) 0, length-table (task_rounds reload vcpus tasks) (task_rows tasks) 0)

  pub all_found : {blank known found : RowTimes}
      → Timed (vcpu_time vcpus) (vcpu_rounds vcpus) (vcpu_rows vcpus) 0 blank None known
      → Timed (task_time reload vcpus tasks) (task_rounds reload vcpus tasks) (task_rows tasks) (vcpu_rows vcpus) known None found
      → (take (vcpu_rows vcpus + task_rows tasks) found.times ≡ all_times reload vcpus tasks) × (take (vcpu_rows vcpus + task_rows tasks) found.rounds ≡ all_rounds reload vcpus tasks)
  unfolding all_times all_rounds vcpu_times task_times
  all_found v t = (both_kept v.times t.times, both_kept v.counts t.counts)
