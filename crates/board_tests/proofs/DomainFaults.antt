-- Refusals 5 to 7 one after the other: the lowest domain at fault for the first of the three numbers that has one.
use Prim.Native.Nat.{ℕ}
use mathlib.Core.List.{[], ◌++◌, append-nil}
use mathlib.Core.Path.{◌≡◌, ap, ◌∙◌, sym}
use Rattle.std.specs.Prelude.{Some, None, List}
use Rattle.lists.specs.Range.{lowest_below}
use Rattle.refusal.specs.Reply.{Answers, Refuses, Test, each, unless}
use Rattle.refusal.proofs.Order.{refused_lowest, passed_lowest}
use Rattle.board.specs.declared.Board.{Board}
use Rattle.board.specs.Tests.{bad_grant, shares_with_another, bad_active, domain_tests}

module _ (b : Board) where
  abbrev n : ℕ
  n = b.domains

  abbrev seven : List Test
  seven = each n 7 (bad_active b)

  abbrev six_seven : List Test
  six_seven = each n 6 (shares_with_another b) ++ seven

  pub grant_refused : {d : ℕ} → lowest_below (bad_grant b) n ≡ Some d → unless {A = Unit {0}} (domain_tests b) tt ≡ Refuses 5 d
  unfolding domain_tests
  grant_refused e = refused_lowest n 5 (bad_grant b) six_seven (tt {0}) e

  no_grant : lowest_below (bad_grant b) n ≡ None → unless {A = Unit {0}} (domain_tests b) tt ≡ unless six_seven tt
  unfolding domain_tests
  no_grant e = passed_lowest n 5 (bad_grant b) six_seven (tt {0}) e

  pub sharing_refused : {d : ℕ} → lowest_below (bad_grant b) n ≡ None → lowest_below (shares_with_another b) n ≡ Some d → unless {A = Unit {0}} (domain_tests b) tt ≡ Refuses 6 d
  sharing_refused g e = no_grant g ∙ refused_lowest n 6 (shares_with_another b) seven (tt {0}) e

  no_sharing : lowest_below (bad_grant b) n ≡ None → lowest_below (shares_with_another b) n ≡ None → unless {A = Unit {0}} (domain_tests b) tt ≡ unless (seven ++ []) tt
  no_sharing g e = no_grant g ∙ passed_lowest n 6 (shares_with_another b) seven (tt {0}) e ∙ ap (λ (ts : List Test). unless ts tt) (sym (append-nil seven))

  pub active_refused : {d : ℕ} → lowest_below (bad_grant b) n ≡ None → lowest_below (shares_with_another b) n ≡ None → lowest_below (bad_active b) n ≡ Some d → unless {A = Unit {0}} (domain_tests b) tt ≡ Refuses 7 d
  active_refused g s e = no_sharing g s ∙ refused_lowest n 7 (bad_active b) [] (tt {0}) e

  pub none_refused : lowest_below (bad_grant b) n ≡ None → lowest_below (shares_with_another b) n ≡ None → lowest_below (bad_active b) n ≡ None → unless {A = Unit {0}} (domain_tests b) tt ≡ Answers tt
  unfolding unless
  none_refused g s e = no_sharing g s ∙ passed_lowest n 7 (bad_active b) [] (tt {0}) e
