-- Refusals 17 to 20 one after the other: the lowest row at fault for the first of the four numbers that has one.
use Prim.Native.Nat.{ℕ}
use mathlib.Core.List.{List, [], ◌++◌, append-nil}
use mathlib.Core.Path.{◌≡◌, sym, ap, ◌∙◌}
use Rattle.std.specs.Prelude.{Some, None}
use Rattle.lists.specs.Range.{lowest_below}
use Rattle.refusal.specs.Reply.{Reply, Answers, Refuses, Test, each, unless}
use Rattle.refusal.proofs.Order.{refused_lowest, passed_lowest}
use Rattle.board.specs.declared.Board.{Board}
use Rattle.rows.specs.RowWords.{vcpu_rows, task_rows}
use Rattle.plan.specs.Tests.{bad_vcpu, bad_task, bad_order, shares_colour, row_tests}

module _ (b : Board) (vcpus tasks : List ℕ) where
  abbrev n : ℕ
  n = task_rows tasks

  abbrev reply : List Test → Reply (Unit {0})
  reply ts = unless ts tt

  abbrev twenty : List Test
  twenty = each n 20 (shares_colour tasks)

  abbrev from_19 : List Test
  from_19 = each n 19 (bad_order tasks) ++ twenty

  abbrev from_18 : List Test
  from_18 = each n 18 (bad_task b vcpus tasks) ++ from_19

  pub vcpu_refused : {i : ℕ} → lowest_below (bad_vcpu b vcpus) (vcpu_rows vcpus) ≡ Some i → Refuses 17 i ≡ unless {A = Unit {0}} (row_tests b vcpus tasks) tt
  unfolding row_tests
  vcpu_refused e = sym (refused_lowest (vcpu_rows vcpus) 17 (bad_vcpu b vcpus) from_18 (tt {0}) e)

  module _ (seventeen : lowest_below (bad_vcpu b vcpus) (vcpu_rows vcpus) ≡ None) where
    no_vcpu : reply (row_tests b vcpus tasks) ≡ reply from_18
    unfolding row_tests
    no_vcpu = passed_lowest (vcpu_rows vcpus) 17 (bad_vcpu b vcpus) from_18 (tt {0}) seventeen

    pub task_refused : {j : ℕ} → lowest_below (bad_task b vcpus tasks) n ≡ Some j → Refuses 18 j ≡ unless {A = Unit {0}} (row_tests b vcpus tasks) tt
    task_refused e = sym (no_vcpu ∙ refused_lowest n 18 (bad_task b vcpus tasks) from_19 (tt {0}) e)

    module _ (eighteen : lowest_below (bad_task b vcpus tasks) n ≡ None) where
      no_task : reply (row_tests b vcpus tasks) ≡ reply from_19
      no_task = no_vcpu ∙ passed_lowest n 18 (bad_task b vcpus tasks) from_19 (tt {0}) eighteen

      pub order_refused : {j : ℕ} → lowest_below (bad_order tasks) n ≡ Some j → Refuses 19 j ≡ unless {A = Unit {0}} (row_tests b vcpus tasks) tt
      order_refused e = sym (no_task ∙ refused_lowest n 19 (bad_order tasks) twenty (tt {0}) e)

      module _ (nineteen : lowest_below (bad_order tasks) n ≡ None) where
        no_order : reply (row_tests b vcpus tasks) ≡ reply (twenty ++ [])
        no_order = no_task ∙ passed_lowest n 19 (bad_order tasks) twenty (tt {0}) nineteen ∙ ap reply (sym (append-nil twenty))

        pub sharing_refused : {j : ℕ} → lowest_below (shares_colour tasks) n ≡ Some j → Refuses 20 j ≡ unless {A = Unit {0}} (row_tests b vcpus tasks) tt
        sharing_refused e = sym (no_order ∙ refused_lowest n 20 (shares_colour tasks) [] (tt {0}) e)

        pub none_refused : lowest_below (shares_colour tasks) n ≡ None → Answers tt ≡ unless {A = Unit {0}} (row_tests b vcpus tasks) tt
        unfolding unless
        none_refused e = sym (no_order ∙ passed_lowest n 20 (shares_colour tasks) [] (tt {0}) e)
