-- The order of refusals in admission: the board's, then the plan's, then late VCPUs, then late tasks.
use Rattle.std.specs.Prelude.{Some, None, if◌then◌else◌}
use Prim.Native.Nat.{ℕ}
use mathlib.Core.Bool.{Bool}
use mathlib.Core.List.{List, [], ◌++◌, append-nil}
use mathlib.Core.Path.{◌≡◌, sym, ap, ◌∙◌}
use lib.Dec.{ltb}
use Rattle.lists.specs.Range.{lowest, lowest_below}
use Rattle.refusal.specs.Reply.{Answers, Refuses, Test, each, unless}
use Rattle.refusal.proofs.Order.{unless_refused, unless_passed, unless_each, refused_lowest, passed_lowest}
use Rattle.board.specs.declared.Board.{Board}
use Rattle.board.specs.Tests.{board_tests, board_reply}
use Rattle.rows.specs.RowWords.{vcpu_rows, task_rows}
use Rattle.plan.specs.Tests.{plan_tests, plan_reply}
use Rattle.times.specs.Times.{task_time, vcpu_time}
use Rattle.admission.specs.Admission.{is_late, time_tests, admission_reply}

module _ (b : Board) (reload : ℕ) (vcpus tasks : List ℕ) (room : ℕ) where
  pub by_board : (n r : ℕ) → board_reply b b.frames ≡ Refuses n r → admission_reply b reload vcpus tasks room ≡ Refuses n r
  unfolding board_reply admission_reply
  by_board n r e = unless_refused tt tt (board_tests b b.frames) _ n r e

  module _ (e : board_reply b b.frames ≡ Answers tt) where
    pub by_plan : (n r : ℕ) → plan_reply b reload vcpus tasks room ≡ Refuses n r → admission_reply b reload vcpus tasks room ≡ Refuses n r
    unfolding board_reply plan_reply admission_reply
    by_plan n r f =
        unless_passed tt tt (board_tests b b.frames) _ e ∙ unless_refused tt tt (plan_tests b reload vcpus tasks room) _ n r f

    pub by_times : plan_reply b reload vcpus tasks room ≡ Answers tt → admission_reply b reload vcpus tasks room ≡ unless (time_tests reload vcpus tasks) tt
    unfolding board_reply plan_reply admission_reply
    by_times f = unless_passed tt tt (board_tests b b.frames) _ e ∙ unless_passed tt tt (plan_tests b reload vcpus tasks room) _ f

module _ (reload : ℕ) (vcpus tasks : List ℕ) where
  abbrev pub late_vcpu_lem : ℕ
  late_vcpu_lem = lowest (λ (i : ℕ). is_late (vcpu_time vcpus i)) (vcpu_rows vcpus)

  abbrev pub late_task_lem : ℕ
  late_task_lem = lowest (λ (j : ℕ). is_late (task_time reload vcpus tasks j)) (task_rows tasks)

  pub time_reply :
      unless {A = Unit {0}} (time_tests reload vcpus tasks) tt
      ≡ (if ltb late_vcpu_lem (vcpu_rows vcpus) then Refuses 21 late_vcpu_lem
      else if ltb late_task_lem (task_rows tasks) then Refuses 22 late_task_lem
      else Answers tt)
  unfolding time_tests unless
  time_reply =
      let late = each (task_rows tasks) 22 (λ (j : ℕ). is_late (task_time reload vcpus tasks j)) in
      rw (unless_each (vcpu_rows vcpus) 21 _ late (tt {0}), ← append-nil late, unless_each (task_rows tasks) 22 _ [] (tt {0}))

  -- the first late row of each kind, if one is
  abbrev late_vcpu : ℕ → Bool
  late_vcpu i = is_late (vcpu_time vcpus i)

  abbrev late_task : ℕ → Bool
  late_task j = is_late (task_time reload vcpus tasks j)

  abbrev twenty_two : List Test
  twenty_two = each (task_rows tasks) 22 late_task

  pub vcpu_refused : {i : ℕ} → lowest_below late_vcpu (vcpu_rows vcpus) ≡ Some i → unless {A = Unit {0}} (time_tests reload vcpus tasks) tt ≡ Refuses 21 i
  unfolding time_tests
  vcpu_refused e = refused_lowest (vcpu_rows vcpus) 21 late_vcpu twenty_two (tt {0}) e

  module _ (in_time : lowest_below late_vcpu (vcpu_rows vcpus) ≡ None) where
    no_vcpu : unless {A = Unit {0}} (time_tests reload vcpus tasks) tt ≡ unless (twenty_two ++ []) tt
    unfolding time_tests
    no_vcpu =
        passed_lowest (vcpu_rows vcpus) 21 late_vcpu twenty_two (tt {0}) in_time
        ∙ ap (λ (ts : List Test). unless ts tt) (sym (append-nil twenty_two))

    pub task_refused : {j : ℕ} → lowest_below late_task (task_rows tasks) ≡ Some j → unless {A = Unit {0}} (time_tests reload vcpus tasks) tt ≡ Refuses 22 j
    task_refused e = no_vcpu ∙ refused_lowest (task_rows tasks) 22 late_task [] (tt {0}) e

    pub none_late : lowest_below late_task (task_rows tasks) ≡ None → unless {A = Unit {0}} (time_tests reload vcpus tasks) tt ≡ Answers tt
    unfolding unless
    none_late e = no_vcpu ∙ passed_lowest (task_rows tasks) 22 late_task [] (tt {0}) e
