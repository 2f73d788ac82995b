-- The times of a plan's rows, from those of the parts of its VCPUs: in a plan that passes, a row's part has all rows of its VCPU up to it, with their own words,
-- so that need and deadline are those of the row; and the lists that admission leaves have the times at their places.
use Rattle.std.specs.Prelude.{if◌then◌else◌}
use Prim.Native.Nat.{ℕ, zero, suc, ◌+◌, ◌-◌, ◌<◌, ◌≤◌}
use native.Mathlib.Nat.{mul-zero, add-zero, zero-add, lt_irrefl}
use native.Mathlib.Omega.{arith}
use mathlib.Core.Bool.{Bool, true, false, true≢false}
use mathlib.Core.List.{List, ◌++◌}
use mathlib.Core.Path.{◌≡◌, refl, sym, ap, ◌∙◌}
use lib.Dec.{eqb, ltb}
use lib.ListN.{length, get_or, drop, get_or-append}
use lib.Seq.{get_or-append-add}
use borrow.Author.Tests.{eq-eqb, ltb-true}
use Rattle.lists.proofs.CaseSplits.{cases}
use Rattle.lists.proofs.Searches.{found}
use Rattle.lists.proofs.WrittenLists.{table_entry}
use Rattle.refusal.specs.Reply.{Reply, Answers, Refuses, Test, each, passes}
use Rattle.refusal.proofs.Replies.{answers_passed, passed_answers}
use Rattle.refusal.proofs.Order.{passed_earlier, passed_later, each_passed}
use Rattle.board.specs.declared.Board.{Board}
use Rattle.board.specs.Tests.{board_tests, board_reply}
use Rattle.rows.specs.RowWords.{vcpu_period, budget, vcpu_of, task_period, deadline, cost, vcpu_rows, task_rows}
use Rattle.rows.specs.Reload.{held_from, reloaded_set, reloaded, arrival_charge}
use Rattle.rows.specs.Part.{part_start, part_end, part_of}
use Rattle.rows.specs.ValidRows.{Plan}
use Rattle.rows.proofs.Parts.{none_before, part_word, part_own, part_cost, row_in_part}
use Rattle.plan.specs.Tests.{plan_tests, plan_reply}
use Rattle.plan.proofs.Validity.{valid}
use Rattle.times.specs.FirstTime.{Time, At, Late}
use Rattle.times.specs.Times.{arrivals, need, task_need, task_time, vcpu_need, vcpu_time}
use Rattle.times.proofs.Planner as planner
use Rattle.admission.specs.Admission.{is_late, microseconds, time_tests, room_of, admission_reply, vcpu_times, task_times, all_times, judged}
use Rattle.admission.proofs.LentLists.{length-vcpu_times, length-times}
use Rattle.admission.proofs.RefusalOrder.{by_board, by_plan, by_times, late_vcpu_lem, late_task_lem, time_reply}
use Rattle.claims.specs.Rounds.{Passes}
use Rattle.claims.specs.RowTimes.{row_charge, row_need, row_supply, IsFirst, NeverCovers, RowTimeClaims}
use Rattle.claims.proofs.TestNumbers.{refusal_has, board_has, plan_has}

-- need over a list is that over a part of it, where the rows before the part charge nothing and those of the part the same
module _ (own : ℕ) (period charge period' charge' : ℕ → ℕ) (start t : ℕ) where
  nothing : (n : ℕ) → ((k : ℕ) → k < n → charge k ≡ 0) → need own period charge n t ≡ own
  unfolding need
  nothing zero none = refl
  nothing (suc n) none =
      rw (none n (omega arith), mul-zero (arrivals t (period n)), add-zero (need own period charge n t)) (nothing n (λ k l. none k (omega arith)))

  need_in_part : (m : ℕ) → ((k : ℕ) → k < start → charge k ≡ 0) → ((k : ℕ) → k < m → (period' k ≡ period (start + k)) × (charge' k ≡ charge (start + k)))
      → need own period' charge' m t ≡ need own period charge (start + m) t
  unfolding need
  need_in_part zero none part = let all : start + 0 ≡ start = omega arith in rw all (sym (nothing start none))
  need_in_part (suc m) none part =
      let last = part m (omega arith) in
      let next : start + suc m ≡ suc (start + m) = omega arith in
      rw (next, last.0, last.1, need_in_part m none (λ k l. part k (omega arith)))

module _ (reload : ℕ) (vcpus tasks : List ℕ) (plan : Plan reload vcpus tasks) (j : ℕ) (row : j < task_rows tasks) where
  abbrev v : ℕ
  v = vcpu_of tasks j

  abbrev part : List ℕ
  part = part_of tasks v

  abbrev start : ℕ
  start = part_start tasks v

  -- its place in the part
  abbrev i : ℕ
  i = j - start

  inside : (start ≤ j) × (j < part_end tasks v)
  inside = row_in_part tasks plan.ascending j row

  at : start + i ≡ j
  at = omega (arith, inside.0)

  here : (k : ℕ) → k ≤ i → k < part_end tasks v - start
  here k l = omega (arith, l, inside.0, inside.1)

  -- its rows up to the row in question have the words of theirs
  same_cost : (k : ℕ) → k ≤ i → cost part k ≡ cost tasks (start + k)
  same_cost k l = part_cost tasks v k (here k l) (plan.task_rows_lem.row (start + k) (omega (arith, l, at, row))).colours_high

  same_held : (n k : ℕ) → k + n ≤ i + 1 → held_from part k n ≡ held_from tasks (start + k) n
  unfolding held_from
  same_held zero k l = refl
  same_held (suc n) k l =
      let next : start + suc k ≡ suc (start + k) = omega arith in
      rw (part_word tasks v k 3 (here k (omega (arith, l))) (omega arith), same_held n (suc k) (omega (arith, l)), next) refl

  same_reload : (k : ℕ) → k < i → reloaded part i k ≡ reloaded tasks j (start + k)
  unfolding reloaded reloaded_set
  same_reload k l =
      let n : j - (start + k) ≡ i - k = omega (arith, at) in
      let next : start + suc k ≡ suc (start + k) = omega arith in
      rw (n, part_word tasks v k 3 (here k (omega (arith, l))) (omega arith), same_held (i - k) (suc k) (omega (arith, l)), next) refl

  same_charge : (k : ℕ) → k < i → arrival_charge reload part i k ≡ row_charge reload tasks j (start + k)
  unfolding arrival_charge
  same_charge k l =
      let own : eqb (vcpu_of tasks (start + k)) v ≡ true = eq-eqb _ v (part_own tasks v k (here k (omega (arith, l)))) in
      rw (own, same_cost k (omega (arith, l)), same_reload k l) refl

  same_need : (t : ℕ) → task_need reload part i t ≡ row_need reload tasks j t
  unfolding task_need
  same_need t =
      let all = need_in_part (cost tasks j) (task_period tasks) (row_charge reload tasks j) (task_period part) (arrival_charge reload part i) start t i
      (λ k l. rw (none_before tasks v k l) refl)
      (λ k l. (part_word tasks v k 1 (here k (omega (arith, l))) (omega arith), same_charge k l)) in
      let first : cost part i ≡ cost tasks j = same_cost i (omega arith) ∙ ap (cost tasks) at in
      ap (λ (c : ℕ). need c (task_period part) (arrival_charge reload part i) i t) first
      ∙ all
      ∙ ap (λ (n : ℕ). need (cost tasks j) (task_period tasks) (row_charge reload tasks j) n t) at

  same_due : deadline part i ≡ deadline tasks j
  same_due = part_word tasks v i 2 (here i (omega arith)) (omega arith) ∙ ap (deadline tasks) at

  pub first_of_row : (t : ℕ) → task_time reload vcpus tasks j ≡ At t → IsFirst (row_supply vcpus tasks j) (row_need reload tasks j) (deadline tasks j) t
  unfolding task_time
  first_of_row t e =
      let r = planner.time_is_first (vcpu_period vcpus v) (budget vcpus v) reload part i t e in
      record {
        from_1 = r.0;
        in_time = rw same_due at r.1;
        covers = rw (same_need t) at r.2;
        none_before = λ s a b. rw (same_need s) at (r.3 s a b);
      }

  pub none_for_row : task_time reload vcpus tasks j ≡ Late → NeverCovers (row_supply vcpus tasks j) (row_need reload tasks j) (deadline tasks j)
  unfolding task_time
  none_for_row e s a b =
      rw (same_need s) at (planner.late_is_late (vcpu_period vcpus v) (budget vcpus v) reload part i e s a (omega (arith, b, same_due)))

-- a time that is not late, and one that is
not_late : (time : Time) → is_late time ≡ false → time ≡ At (microseconds time)
not_late (At t) e = refl
not_late Late e = absurd (true≢false e)

is_late_lem : (time : Time) → is_late time ≡ true → time ≡ Late
is_late_lem (At t) e = absurd (true≢false (sym e))
is_late_lem Late e = refl

module _ (b : Board) (reload : ℕ) (vcpus tasks : List ℕ) (room : ℕ) where
  abbrev first : List Test
  first = board_tests b b.frames

  abbrev second : List Test
  second = plan_tests b reload vcpus tasks room

  abbrev third : List Test
  third = time_tests reload vcpus tasks

  abbrev late_vcpus : List Test
  late_vcpus = each (vcpu_rows vcpus) 21 (λ (i : ℕ). is_late (vcpu_time vcpus i))

  abbrev late_tasks : List Test
  late_tasks = each (task_rows tasks) 22 (λ (j : ℕ). is_late (task_time reload vcpus tasks j))

  -- an admitted plan passes all tests, and no row is late
  module _ (ok : admission_reply b reload vcpus tasks room ≡ Answers tt) where
    all_pass : passes (first ++ (second ++ third)) ≡ true
    unfolding admission_reply
    all_pass = (answers_passed (first ++ (second ++ third)) tt tt ok).0

    later_pass : passes (second ++ third) ≡ true
    later_pass = passed_later first (second ++ third) all_pass

    pub plan_passes : Passes b reload vcpus tasks room
    unfolding board_reply plan_reply
    plan_passes =
        (passed_answers first tt (passed_earlier first (second ++ third) all_pass), passed_answers second tt (passed_earlier second third later_pass))

    times_pass : passes (late_vcpus ++ late_tasks) ≡ true
    unfolding time_tests
    times_pass = passed_later second third later_pass

    pub vcpu_in_time : (i : ℕ) → i < vcpu_rows vcpus → vcpu_time vcpus i ≡ At (microseconds (vcpu_time vcpus i))
    vcpu_in_time i h = not_late _ (each_passed 21 _ (vcpu_rows vcpus) (passed_earlier late_vcpus late_tasks times_pass) i h)

    pub task_in_time : (j : ℕ) → j < task_rows tasks → task_time reload vcpus tasks j ≡ At (microseconds (task_time reload vcpus tasks j))
    task_in_time j h = not_late _ (each_passed 22 _ (task_rows tasks) (passed_later late_vcpus late_tasks times_pass) j h)

-- the lists that admission leaves
module _ (b : Board) (reload : ℕ) (vcpus tasks times rounds : List ℕ) (ok : (judged b reload vcpus tasks times rounds).reply ≡ Answers tt) where
  admitted : admission_reply b reload vcpus tasks (room_of times rounds) ≡ Answers tt
  unfolding judged
  admitted = ok

  abbrev all : List ℕ
  all = all_times reload vcpus tasks

  times_are : (judged b reload vcpus tasks times rounds).times ≡ all ++ drop (length all) times
  unfolding judged
  times_are = rw admitted

  vcpu_word_lem : (i : ℕ) → i < vcpu_rows vcpus → get_or (judged b reload vcpus tasks times rounds).times i 0 ≡ microseconds (vcpu_time vcpus i)
  unfolding all_times vcpu_times
  vcpu_word_lem i h =
      rw times_are
      (get_or-append all _ 0 i (omega (arith, h, length-times reload vcpus tasks))
      ∙ get_or-append (vcpu_times vcpus) (task_times reload vcpus tasks) 0 i (omega (arith, h, length-vcpu_times vcpus))
      ∙ table_entry (λ (i : ℕ). microseconds (vcpu_time vcpus i)) (vcpu_rows vcpus) 0 i h
      ∙ ap (λ (n : ℕ). microseconds (vcpu_time vcpus n)) (zero-add i))

  task_word_lem : (j : ℕ) → j < task_rows tasks → get_or (judged b reload vcpus tasks times rounds).times (vcpu_rows vcpus + j) 0 ≡ microseconds (task_time reload vcpus tasks j)
  unfolding all_times task_times
  task_word_lem j h =
      rw times_are
      (get_or-append all _ 0 (vcpu_rows vcpus + j) (omega (arith, h, length-times reload vcpus tasks))
      ∙ ap (λ (n : ℕ). get_or all (n + j) 0) (sym (length-vcpu_times vcpus))
      ∙ get_or-append-add (vcpu_times vcpus) (task_times reload vcpus tasks) j 0
      ∙ table_entry (λ (j : ℕ). microseconds (task_time reload vcpus tasks j)) (task_rows tasks) 0 j h
      ∙ ap (λ (n : ℕ). microseconds (task_time reload vcpus tasks n)) (zero-add j))

  pub admitted_vcpu : (i : ℕ) → i < vcpu_rows vcpus
      → IsFirst (λ (t : ℕ). t) (vcpu_need vcpus i) (vcpu_period vcpus i) (get_or (judged b reload vcpus tasks times rounds).times i 0)
  admitted_vcpu i h =
      let r = planner.vcpu_time_is_first vcpus i _ (vcpu_in_time b reload vcpus tasks (room_of times rounds) admitted i h) in
      rw (vcpu_word_lem i h) (record { from_1 = r.0; in_time = r.1; covers = r.2; none_before = r.3 })

  pub admitted_task : (j : ℕ) → j < task_rows tasks
      → IsFirst (row_supply vcpus tasks j) (row_need reload tasks j) (deadline tasks j) (get_or (judged b reload vcpus tasks times rounds).times (vcpu_rows vcpus + j) 0)
  admitted_task j h =
      let room = room_of times rounds in
      let p = plan_passes b reload vcpus tasks room admitted in
      rw (task_word_lem j h)
      (first_of_row reload vcpus tasks (valid b reload vcpus tasks room p.1 p.0) j h _ (task_in_time b reload vcpus tasks room admitted j h))

-- a refusal with 21 or 22 comes after all others have passed
module _ (b : Board) (reload : ℕ) (vcpus tasks : List ℕ) (room : ℕ) where
  abbrev Early : ℕ → ℕ → Type 0
  Early n r = n < 21

  late_passes : (n r : ℕ) → 21 ≤ n → admission_reply b reload vcpus tasks room ≡ Refuses n r → Passes b reload vcpus tasks room
  unfolding board_reply plan_reply
  late_passes n r late e = on_board (board_reply b b.frames) refl
    where
      on_plan : board_reply b b.frames ≡ Answers tt → (reply : Reply (Unit {0})) → plan_reply b reload vcpus tasks room ≡ reply → Passes b reload vcpus tasks room
      on_plan board (Answers a) f = (board, f)
      on_plan board (Refuses m q) f =
          let early = refusal_has Early (plan_tests b reload vcpus tasks room) tt
          (plan_has Early (omega arith, omega arith, λ r. omega arith, λ r. omega arith, λ r. omega arith, λ r. omega arith) b reload vcpus tasks room) m q f in
          let same : m ≡ n = cc (by_plan b reload vcpus tasks room board m q f, e) in
          absurd (lt_irrefl n (omega (arith, early, late, same)))

      on_board : (reply : Reply (Unit {0})) → board_reply b b.frames ≡ reply → Passes b reload vcpus tasks room
      on_board (Answers a) f = on_plan f (plan_reply b reload vcpus tasks room) refl
      on_board (Refuses m q) f =
          let early = refusal_has Early (board_tests b b.frames) tt
          (board_has Early (omega arith, omega arith, omega arith, λ r. omega arith, λ r. omega arith, λ r. omega arith) b b.frames) m q f in
          let same : m ≡ n = cc (by_board b reload vcpus tasks room m q f, e) in
          absurd (lt_irrefl n (omega (arith, early, late, same)))

  abbrev late_vcpu_test : ℕ → Bool
  late_vcpu_test i = is_late (vcpu_time vcpus i)

  abbrev late_task_test : ℕ → Bool
  late_task_test j = is_late (task_time reload vcpus tasks j)

  -- then it is the one for the lowest late row
  late_reply : (n r : ℕ) → 21 ≤ n → admission_reply b reload vcpus tasks room ≡ Refuses n r
      → (if ltb (late_vcpu_lem reload vcpus tasks) (vcpu_rows vcpus) then Refuses 21 (late_vcpu_lem reload vcpus tasks)
      else if ltb (late_task_lem reload vcpus tasks) (task_rows tasks) then Refuses 22 (late_task_lem reload vcpus tasks)
      else Answers (tt {0}))
      ≡ Refuses n r
  late_reply n r late e =
      let p = late_passes n r late e in
      sym (time_reply reload vcpus tasks) ∙ sym (by_times b reload vcpus tasks room p.0 p.1) ∙ e

  pub late_vcpu : (i : ℕ) → admission_reply b reload vcpus tasks room ≡ Refuses 21 i
      → (i < vcpu_rows vcpus) × NeverCovers (λ (t : ℕ). t) (vcpu_need vcpus i) (vcpu_period vcpus i)
  late_vcpu i e =
      let late = late_reply 21 i (omega arith) e in
      cases (ltb (late_vcpu_lem reload vcpus tasks) (vcpu_rows vcpus))
      (λ f.
      let same : late_vcpu_lem reload vcpus tasks ≡ i = cc (rw f at late) in
      let there = found late_vcpu_test 0 (vcpu_rows vcpus) (ltb-true _ _ f) in
      rw (← same) (there.high, planner.vcpu_late_is_late vcpus _ (is_late_lem _ there.passes)))
      (λ f.
      let apart : ◌≡◌ {A = ℕ} 0 1 = cases (ltb (late_task_lem reload vcpus tasks) (task_rows tasks)) (λ g. cc (rw (f, g) at late)) (λ g. cc (rw (f, g) at late)) in
      absurd (lt_irrefl 0 (omega arith)))

  pub late_task : (j : ℕ) → admission_reply b reload vcpus tasks room ≡ Refuses 22 j
      → (j < task_rows tasks) × NeverCovers (row_supply vcpus tasks j) (row_need reload tasks j) (deadline tasks j)
  late_task j e =
      let late = late_reply 22 j (omega arith) e in
      let p = late_passes 22 j (omega arith) e in
      let plan = valid b reload vcpus tasks room p.1 p.0 in
      cases (ltb (late_vcpu_lem reload vcpus tasks) (vcpu_rows vcpus))
      (λ f. let apart : ◌≡◌ {A = ℕ} 0 1 = cc (rw f at late) in absurd (lt_irrefl 0 (omega arith)))
      (λ f.
      cases (ltb (late_task_lem reload vcpus tasks) (task_rows tasks))
      (λ g.
      let same : late_task_lem reload vcpus tasks ≡ j = cc (rw (f, g) at late) in
      let there = found late_task_test 0 (task_rows tasks) (ltb-true _ _ g) in
      rw (← same) (there.high, none_for_row reload vcpus tasks plan _ there.high (is_late_lem _ there.passes)))
      (λ g. let apart : ◌≡◌ {A = ℕ} 0 1 = cc (rw (f, g) at late) in absurd (lt_irrefl 0 (omega arith))))

pub row_time_claims : RowTimeClaims
row_time_claims =
    record {
      admitted_vcpu = admitted_vcpu;
      admitted_task = admitted_task;
      late_vcpu = late_vcpu;
      late_task = late_task;
      row_time_is_first = λ b reload vcpus tasks room p j t h. first_of_row reload vcpus tasks (valid b reload vcpus tasks room p.1 p.0) j h t;
      row_late_is_late = λ b reload vcpus tasks room p j h. none_for_row reload vcpus tasks (valid b reload vcpus tasks room p.1 p.0) j h;
    }
