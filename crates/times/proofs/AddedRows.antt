-- Rows added at the end of the task list change no other task's time: the part of each VCPU that has a row is as it was, or has the new
-- words after its old ones.
use Prim.Native.Nat.{ℕ, ◌+◌, ◌-◌, ◌*◌, ◌<◌, ◌≤◌}
use native.Mathlib.Omega.{arith}
use mathlib.Core.List.{List, ◌++◌}
use mathlib.Core.Path.{◌≡◌, refl, ap, ◌∙◌}
use lib.Count.{ones}
use lib.ListN.{length, take, drop, length-append, length-drop, get_or-append}
use lib.Seq.{take_all, take-append-le, drop-append-le, take-append-add}
use borrow.Author.Tests.{eq-eqb}
use Rattle.lists.proofs.CaseSplits.{below_or_not}
use Rattle.lists.proofs.Searches.{sought_same, sought_beyond}
use Rattle.rows.specs.RowWords.{vcpu_of, colour_set, task_rows}
use Rattle.rows.specs.Part.{part_start, part_end, part_of}
use Rattle.rows.proofs.Parts.{own, other, start_low, start_le, part_is, part_length, part_word}
use Rattle.times.specs.Times.{task_time}
use Rattle.times.proofs.Planner.{later_tasks_change_nothing}

module _ (tasks more : List ℕ) (whole : length tasks ≡ 20 * task_rows tasks) (j : ℕ) (row : j < task_rows tasks) where
  abbrev v : ℕ
  v = vcpu_of tasks j

  abbrev n : ℕ
  n = task_rows tasks

  abbrev all : List ℕ
  all = tasks ++ more

  rows_le : n ≤ task_rows all
  rows_le = omega (arith, length-append tasks more)

  vcpu_stays : (k : ℕ) → k < n → vcpu_of all k ≡ vcpu_of tasks k
  vcpu_stays k l = get_or-append tasks more 0 (20 * k + 0) (omega arith)

  own_stays : (k : ℕ) → k < n → own all v k ≡ own tasks v k
  own_stays k l = rw (vcpu_stays k l)

  other_stays : (k : ℕ) → k < n → other all v k ≡ other tasks v k
  other_stays k l = rw (own_stays k l)

  low : part_start tasks v ≤ j
  low = start_low tasks v j (eq-eqb v v refl)

  start_stays : part_start all v ≡ part_start tasks v
  unfolding part_start
  start_stays = sought_same (own tasks v) (own all v) 0 n (task_rows all) rows_le own_stays (omega (arith, low))

  abbrev rest : List ℕ
  rest = drop (20 * part_start tasks v) tasks

  rest_long : length rest ≡ 20 * n - 20 * part_start tasks v
  rest_long = length-drop (20 * part_start tasks v) tasks ∙ ap (λ (x : ℕ). x - 20 * part_start tasks v) whole

  -- the words from the VCPU's first row on
  rest_stays : drop (20 * part_start tasks v) all ≡ rest ++ more
  rest_stays = drop-append-le (20 * part_start tasks v) tasks more (omega (arith, start_le tasks v))

  end_stays : part_end tasks v < n → part_end all v ≡ part_end tasks v
  unfolding part_end
  end_stays h = rw start_stays (sought_same (other tasks v) (other all v) (part_start tasks v) n (task_rows all) rows_le other_stays h)

  end_beyond : n ≤ part_end tasks v → n ≤ part_end all v
  unfolding part_end
  end_beyond h = rw start_stays (sought_beyond (other tasks v) (other all v) (part_start tasks v) n (task_rows all) rows_le other_stays h)

  -- a row of another VCPU ends the part
  part_stays : part_end tasks v < n → part_of all v ≡ part_of tasks v
  part_stays h =
      rw (part_is all v, part_is tasks v, end_stays h, start_stays, rest_stays)
      (take-append-le (20 * part_end tasks v - 20 * part_start tasks v) rest more (omega (arith, rest_long)))

  -- the part goes up to the end
  part_grows : n ≤ part_end tasks v → part_of all v ≡ part_of tasks v ++ take (20 * part_end all v - 20 * n) more
  part_grows h =
      let s : ℕ = part_start tasks v in
      let old : take (20 * part_end tasks v - 20 * s) rest ≡ rest = take_all (20 * part_end tasks v - 20 * s) rest (omega (arith, rest_long)) in
      let count : 20 * part_end all v - 20 * s ≡ length rest + (20 * part_end all v - 20 * n) = omega (arith, rest_long, start_le tasks v, end_beyond h) in
      rw (part_is all v, part_is tasks v, old, start_stays, rest_stays, count) (take-append-add rest more (20 * part_end all v - 20 * n))

  pub added_rows_change_nothing : (reload : ℕ) (vcpus : List ℕ) → ((k : ℕ) → k < n → ones (colour_set tasks k) ≤ 16)
      → task_time reload vcpus all j ≡ task_time reload vcpus tasks j
  unfolding task_time
  added_rows_change_nothing reload vcpus few =
      let s : ℕ = part_start tasks v in
      below_or_not (part_end tasks v) n
      (λ l. rw (vcpu_stays j row, start_stays, part_stays l))
      (λ l.
      let long = part_length tasks v in
      rw (vcpu_stays j row, start_stays, part_grows l)
      (later_tasks_change_nothing (part_of tasks v) (take (20 * part_end all v - 20 * n) more) (j - s) (omega (arith, long, low)) _ _ reload
      (λ k h. rw (part_word tasks v k 3 (omega (arith, low)) (omega arith)) (few (s + k) (omega (arith, low))))))
