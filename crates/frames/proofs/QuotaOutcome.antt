-- From the reply of all that set quota tests to the call's outcome: a refusal settles it, and otherwise the quota is set.
use Prim.Native.Nat.{ℕ, ◌<◌}
use native.Mathlib.Omega.{arith}
use mathlib.Core.Bool.{true}
use mathlib.Core.List.{List, [], ◌∷◌, ◌++◌}
use mathlib.Core.Path.{◌≡◌, refl, sym, ap, subst}
use lib.ListN.{length}
use Rattle.refusal.specs.Reply.{Reply, Answers, Refuses, Test, passes}
use Rattle.refusal.proofs.Replies.{passed_answers, answers_passed}
use Rattle.refusal.proofs.Order.{passed_earlier, refuses_alike}
use Rattle.board.specs.Tests.{call_tests, call_reply}
use Rattle.board.proofs.PassedTests.{accepted}
use Rattle.calls.specs.Table.{State}
use Rattle.calls.specs.Calls.{Outcome, Quota, settle, called, with_quotas, with_quota, quota_test, set_quota}
use Rattle.frames.specs.Steps.{quota_reply}
use Rattle.calls.proofs.CallTests.{refused}

-- of the board, an outcome changes the quotas alone
abbrev OnlyQuotas : State → Outcome → Type 0
OnlyQuotas s o = o.next.board ≡ with_quotas s.board o.next.board.quotas

module _ (s : State) (d q : ℕ) where
  abbrev tests : List Test
  tests = call_tests s.board (length s.table) d ++ (quota_test s d q ∷ [])

  pub quota_refused : (n r : ℕ) → quota_reply s d q ≡ Refuses n r → set_quota s d q ≡ refused s n r
  unfolding quota_reply set_quota called settle
  quota_refused n r e = ap (settle s) (refuses_alike (tt {0}) _ tests n r e)

  passed : quota_reply s d q ≡ Answers tt → passes tests ≡ true
  unfolding quota_reply
  passed e = (answers_passed tests (tt {0}) tt e).0

  -- the quota is set
  abbrev pub given : Outcome
  given = record { reply = Answers (Quota q); moves = []; next = record { board = with_quota s.board d q; table = s.table } }

  pub quota_given : quota_reply s d q ≡ Answers tt → set_quota s d q ≡ given
  unfolding set_quota called settle
  quota_given e = ap (settle s) (passed_answers tests _ (passed e))

  pub asker_below : quota_reply s d q ≡ Answers tt → d < 8
  unfolding call_reply
  asker_below e =
      let first : List Test = call_tests s.board (length s.table) d in
      let a = accepted s.board (length s.table) d (passed_answers first (tt {0}) (passed_earlier first (quota_test s d q ∷ []) (passed e))) in
      omega (arith, a.bounds, a.caller)

  pub only_quotas : OnlyQuotas s (set_quota s d q)
  only_quotas = by_reply (quota_reply s d q) refl
    where
      by_reply : (r : Reply (Unit {0})) → quota_reply s d q ≡ r → OnlyQuotas s (set_quota s d q)
      by_reply (Answers tt) e = subst (OnlyQuotas s) (sym (quota_given e)) refl
      by_reply (Refuses n r) e = subst (OnlyQuotas s) (sym (quota_refused n r e)) refl
