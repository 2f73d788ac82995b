-- A plan that passes 15 to 19, on a board that passes 2 to 7, is `Plan`: its lists are of their sizes and every row within its ranges. Each
-- task holds 1 to 16 colours of its grant, so that its cost is one of the sixteen. And by 16 the lists have room.
use Prim.Native.Nat.{ℕ, ◌+◌, ◌-◌, ◌/◌, ◌%◌, ◌^◌, ◌<◌, ◌≤◌}
use native.Mathlib.Nat.{pos_of_ne-zero, lt_of_le_of_lt}
use native.Mathlib.Omega.{arith}
use mathlib.Core.Bool.{false, not, ◌||◌}
use mathlib.Core.List.{List, ◌++◌}
use mathlib.Core.Path.{◌≡◌}
use lib.Bits.{bit_and, and_le_r}
use lib.Count.{ones, ones-le}
use lib.Dec.{eqb, ltb}
use lib.ListN.{length}
use borrow.Author.Tests.{ltb-true, ltb-false, lt-ltb, eqb-true, eqb-false, not-false}
use Rattle.lists.specs.Range.{from, any_of}
use Rattle.lists.proofs.CaseSplits.{neither}
use Rattle.lists.proofs.Searches.{any_from}
use Rattle.refusal.specs.Reply.{Test, Answers, test, each}
use Rattle.refusal.proofs.Replies.{passed_first, answers_passed}
use Rattle.refusal.proofs.Order.{passed_earlier, passed_later, each_passed}
use Rattle.colours.proofs.Bits.{ones_pos}
use Rattle.colours.proofs.Ranges.{count_range, colour_set_lem}
use Rattle.board.specs.declared.Board.{Board}
use Rattle.board.specs.Tests.{grant, board_tests, board_reply}
use Rattle.board.proofs.PassedTests.{split}
use Rattle.rows.specs.RowWords.{core, domain, vcpu_period, budget, vcpu_of, task_period, deadline, colour_set, cost_with, cost, vcpu_rows, task_rows}
use Rattle.rows.specs.ValidRows.{TaskRow, VcpuRow, AscendingVcpus, Plan}
use Rattle.plan.specs.Tests.{zero_or_above, bad_times, bad_vcpu_words, bad_task_words, bad_vcpu, bad_cost, bad_fields, bad_task, bad_order, shares_colour, row_tests, plan_tests, plan_reply}

-- 15 to 19, test by test
pub record Tested (b : Board) (reload : ℕ) (vcpus tasks : List ℕ) (room : ℕ) : Type 0 where
  pub vcpu_words : bad_vcpu_words reload (length vcpus) ≡ false
  pub task_words : bad_task_words (vcpu_rows vcpus) (length tasks) room ≡ false
  pub vcpu_rows_lem : (i : ℕ) → i < vcpu_rows vcpus → bad_vcpu b vcpus i ≡ false
  pub task_rows_lem : (j : ℕ) → j < task_rows tasks → bad_task b vcpus tasks j ≡ false
  pub order : (j : ℕ) → j < task_rows tasks → bad_order tasks j ≡ false

tested : (b : Board) (reload : ℕ) (vcpus tasks : List ℕ) (room : ℕ) → plan_reply b reload vcpus tasks room ≡ Answers tt → Tested b reload vcpus tasks room
unfolding plan_reply plan_tests row_tests
tested b reload vcpus tasks room e =
    let n : ℕ = task_rows tasks in
    let seventeen : List Test = each (vcpu_rows vcpus) 17 (bad_vcpu b vcpus) in
    let eighteen : List Test = each n 18 (bad_task b vcpus tasks) in
    let nineteen : List Test = each n 19 (bad_order tasks) in
    let twenty : List Test = each n 20 (shares_colour tasks) in
    let first = passed_first (test 15 (bad_vcpu_words reload (length vcpus))) _ (answers_passed (plan_tests b reload vcpus tasks room) tt tt e).0 in
    let second = passed_first (test 16 (bad_task_words (vcpu_rows vcpus) (length tasks) room)) _ first.1 in
    let from_18 = passed_later seventeen (eighteen ++ (nineteen ++ twenty)) second.1 in
    let from_19 = passed_later eighteen (nineteen ++ twenty) from_18 in
    record {
      vcpu_words = first.0;
      task_words = second.0;
      vcpu_rows_lem = each_passed 17 (bad_vcpu b vcpus) (vcpu_rows vcpus) (passed_earlier seventeen (eighteen ++ (nineteen ++ twenty)) second.1);
      task_rows_lem = each_passed 18 (bad_task b vcpus tasks) n (passed_earlier eighteen (nineteen ++ twenty) from_18);
      order = each_passed 19 (bad_order tasks) n (passed_earlier nineteen twenty from_19);
    }

ranged : (limit x : ℕ) → zero_or_above limit x ≡ false → (1 ≤ x) × (x ≤ limit)
ranged limit x e =
    let r = neither (eqb x 0) (ltb limit x) e in
    (pos_of_ne-zero (eqb-false x 0 r.0), ltb-false limit x r.1)

-- 15 and 16
pub vcpus_most : (reload words : ℕ) → bad_vcpu_words reload words ≡ false → (reload ≤ 10000) × (words ≤ 64)
vcpus_most reload words e =
    let v = neither (ltb 10000 reload) _ e in
    (ltb-false 10000 reload v.0, (ranged 64 words (neither (zero_or_above 64 words) _ v.1).0).1)

pub tasks_most : (rows words room : ℕ) → bad_task_words rows words room ≡ false → (words ≤ 640) × (rows + words / 20 ≤ room)
tasks_most rows words room e =
    let t = neither (zero_or_above 640 words) _ e in
    ((ranged 640 words t.0).1, ltb-false room _ (neither (not (eqb (words % 20) 0)) _ t.1).1)

module _ (b : Board) (vcpus tasks : List ℕ) where
  vcpu_row : (i : ℕ) → i < vcpu_rows vcpus → bad_vcpu b vcpus i ≡ false → VcpuRow vcpus i × (domain vcpus i < b.domains)
  vcpu_row i h e =
      let t = neither (ltb 3 (core vcpus i) || not (ltb (domain vcpus i) b.domains)) (bad_times (vcpu_period vcpus i) (budget vcpus i)) e in
      let r = neither (zero_or_above 1000000 (vcpu_period vcpus i)) _ t.1 in
      let q = ranged (vcpu_period vcpus i) (budget vcpus i) r.1 in
      let row : VcpuRow vcpus i = record { period_high = (ranged 1000000 (vcpu_period vcpus i) r.0).1; budget_low = q.0; budget_high = q.1 } in
      (row, ltb-true _ _ (not-false _ (neither (ltb 3 (core vcpus i)) _ t.0).1))

  -- a row whose VCPU is given, and whose set lies in a grant of a board that passes 2 to 7
  module _ (j : ℕ) (h : j < task_rows tasks) (e : bad_task b vcpus tasks j ≡ false) where
    abbrev s : ℕ
    s = colour_set tasks j

    abbrev g : ℕ
    g = grant b (domain vcpus (vcpu_of tasks j))

    named : vcpu_of tasks j < vcpu_rows vcpus
    named = ltb-true _ _ (not-false _ (neither (not (ltb (vcpu_of tasks j) (vcpu_rows vcpus))) _ (neither (bad_fields b vcpus tasks j) _ e).0).0)

    task_row : g < 2 ^ b.colours → b.colours ≤ 16 → TaskRow tasks j
    unfolding cost
    task_row below few =
        let r = neither (bad_fields b vcpus tasks j) (any_of (bad_cost tasks j) (from 1 16)) e in
        let v = neither (not (ltb (vcpu_of tasks j) (vcpu_rows vcpus))) _ r.0 in
        let t = neither (bad_times (task_period tasks j) (deadline tasks j)) _ v.1 in
        let p = neither (zero_or_above 1000000 (task_period tasks j)) _ t.0 in
        let set = neither (eqb s 0) (not (eqb (bit_and s g) s)) t.1 in
        let period = ranged 1000000 (task_period tasks j) p.0 in
        let due = ranged (task_period tasks j) (deadline tasks j) p.1 in
        let inside : s ≤ g = rw (eqb-true (bit_and s g) s (not-false _ set.1)) at (and_le_r s g) in
        let low : 1 ≤ ones s = ones_pos s (pos_of_ne-zero (eqb-false s 0 set.0)) in
        let high : ones s ≤ 16 = omega (arith, ones-le b.colours s (lt_of_le_of_lt inside below), few) in
        let c = ranged 1000000 (cost_with tasks j (ones s)) (neither (zero_or_above 1000000 (cost_with tasks j (ones s))) _ (any_from (bad_cost tasks j) 16 1 (ones s) r.1 low (omega arith))).0 in
        record {
          period_low = period.0;
          period_high = period.1;
          due_low = due.0;
          due_high = due.1;
          colours_low = low;
          colours_high = high;
          cost_low = c.0;
          cost_high = c.1;
        }

in_order_lem : (tasks : List ℕ) → ((j : ℕ) → j < task_rows tasks → bad_order tasks j ≡ false) → AscendingVcpus tasks
in_order_lem tasks none j h =
    let back : j + 1 - 1 ≡ j = omega arith in
    let here : bad_order tasks (j + 1) ≡ false = none (j + 1) h in
    ltb-false (vcpu_of tasks (j + 1)) (vcpu_of tasks j) (rw (lt-ltb 0 (j + 1) (omega arith), back) at here)

module _ (b : Board) (reload : ℕ) (vcpus tasks : List ℕ) (room : ℕ) (answered : plan_reply b reload vcpus tasks room ≡ Answers tt) where
  abbrev passed : Tested b reload vcpus tasks room
  passed = tested b reload vcpus tasks room answered

  pub roomy : vcpu_rows vcpus + task_rows tasks ≤ room
  roomy = (tasks_most (vcpu_rows vcpus) (length tasks) room passed.task_words).1

  row : (i : ℕ) → i < vcpu_rows vcpus → VcpuRow vcpus i × (domain vcpus i < b.domains)
  row i h = vcpu_row b vcpus tasks i h (passed.vcpu_rows_lem i h)

  name : (j : ℕ) → j < task_rows tasks → vcpu_of tasks j < vcpu_rows vcpus
  name j h = named b vcpus tasks j h (passed.task_rows_lem j h)

  pub valid : board_reply b b.frames ≡ Answers tt → Plan reload vcpus tasks
  unfolding board_reply
  valid e =
      let board = split b b.frames (answers_passed (board_tests b b.frames) tt tt e).0 in
      let task : (j : ℕ) → j < task_rows tasks → TaskRow tasks j = λ j h.
      (let set = colour_set_lem b.colours _ (not-false _ (board.grants _ (row _ (name j h)).1)) in
      task_row b vcpus tasks j h (passed.task_rows_lem j h) set.below (count_range b.colours board.count).1) in
      let most = vcpus_most reload (length vcpus) passed.vcpu_words in
      record {
        reload_high = most.0;
        vcpu_rows_lem = record { few = omega (arith, most.1); row = λ i h. (row i h).0 };
        task_rows_lem = record { few = omega (arith, (tasks_most (vcpu_rows vcpus) (length tasks) room passed.task_words).0); row = task };
        names = name;
        ascending = in_order_lem tasks passed.order;
      }
