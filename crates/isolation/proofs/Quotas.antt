-- That no domain holds more frames than its quota: no call makes a domain hold more but a fault that is answered new, which it is only below the quota, and a
-- quota below the frames held is refused. It holds of every call on any board and table. And that others' quota calls are not seen, by the rule.
use Prim.Native.Nat.{ℕ, ◌<◌, ◌≤◌, zero-le}
use native.Mathlib.Omega.{arith}
use mathlib.Core.Bool.{true, false, ◌&&◌, false≢true}
use mathlib.Core.List.{List, [], ◌∷◌, ◌++◌}
use mathlib.Core.Path.{◌≡◌, refl, sym, ap}
use lib.Dec.{eqb}
use lib.ListN.{length}
use lib.Seq.{get_or-set_same, get_or-set_other}
use borrow.Author.Tests.{eqb-true, eqb-false, ne_eqb, ltb-false}
use Rattle.lists.specs.Range.{head_or}
use Rattle.lists.proofs.CaseSplits.{cases, and_both, neither}
use Rattle.lists.proofs.Searches.{none_kept}
use Rattle.refusal.specs.Reply.{Answers, Test}
use Rattle.refusal.proofs.Replies.{passed_first}
use Rattle.board.specs.Tests.{active_set, quota, no_quota}
use Rattle.board.proofs.PassedTests.{CallAccepted, quotas_split, quota_placed}
use Rattle.calls.specs.Table.{State, word_of, is_held, frames_with, frames_held, mapped_to}
use Rattle.calls.specs.FrameChoice.{choices}
use Rattle.calls.specs.Calls.{New, Done, settle, called, fault_done, quota_test, with_quota}
use Rattle.calls.specs.Calls.{look, fault, release, colours, recolour, set_quota}
use Rattle.calls.specs.TakeBack.{take_back}
use Rattle.calls.proofs.NewFrame.{new_frame}
use Rattle.isolation.specs.DomainRule.{Call, Look, Fault, Release, Colours, Recolour, SetQuota, TakeBack, outcome, run, own, Accepted, Empty}
use Rattle.isolation.specs.Quotas.{WithinQuota, NeverAboveQuota, OthersQuotaUnseen}
use Rattle.isolation.specs.Kinds.{is_new, is_fault}
use Rattle.isolation.proofs.TestLists.{called_any, next_any}
use Rattle.isolation.proofs.Rule.{none_held, domain_rule}
use Rattle.isolation.proofs.Balance.{no_more_held}

-- The quota of d after a call that leaves the quotas alone
module _ (d : ℕ) (s : State) where
  abbrev SameQuota : State → Type 0
  SameQuota n = quota n.board d ≡ quota s.board d

  pub same_quota : (e : ℕ) (own : List Test) (done : Done) → SameQuota done.next → SameQuota (called s e own done).next
  same_quota e own done same = next_any SameQuota s refl e own done (λ fine ok. same)

  fault_quota : (w : ℕ) (ms gs : List ℕ) → SameQuota (fault_done s w ms gs).next
  fault_quota w (f ∷ ms) gs = refl
  fault_quota w [] gs = refl

  -- a fault that is answered new is below it
  new_is : (w : ℕ) (ms gs : List ℕ) → is_new (Answers (fault_done s w ms gs).answer) ≡ true → Answers (fault_done s w ms gs).answer ≡ Answers (New (head_or 0 gs))
  new_is w (f ∷ ms) gs new = absurd (false≢true new)
  new_is w [] gs new = refl

  new_below : (p : ℕ) → is_new (fault s d p).reply ≡ true → frames_held s d < quota s.board d
  unfolding fault settle
  new_below p new =
      let gs : List ℕ = choices s d (active_set s.board d) in
      let answered =
      called_any (λ o. is_new o.reply ≡ true → o.reply ≡ Answers (New (head_or 0 gs))) s (λ n r no. absurd (false≢true no)) d _ _
      (λ fine ok. new_is (word_of d p) (mapped_to s d p) gs) in
      (new_frame s d p (head_or 0 gs) (answered new)).1

-- Each call, whosever it is, on any board and table
module _ (d : ℕ) (s : State) (within : WithinQuota d s) where
  no_more : (c : Call) → (is_fault d c && is_new (outcome s c).reply) ≡ false → quota (outcome s c).next.board d ≡ quota s.board d
      → WithinQuota d (outcome s c).next
  no_more c none same = rw same (omega (arith, rw none at (no_more_held d s c), within))

  fault_within : (e p : ℕ) → quota (fault s e p).next.board d ≡ quota s.board d → WithinQuota d (fault s e p).next
  fault_within e p same =
      cases (eqb e d && is_new (fault s e p).reply)
      (λ new.
      let o = and_both (eqb e d) _ new in
      let room = new_below d s p (rw (eqb-true e d o.0) at o.1) in
      rw same (omega (arith, rw new at (no_more_held d s (Fault e p)), room)))
      (λ none. no_more (Fault e p) none same)

  allowed : (e q : ℕ) → CallAccepted s.board (length s.table) e → (quota_test s e q).fails ≡ false → frames_held s d ≤ quota (with_quota s.board e q) d
  allowed e q fine ok =
      let qs : List ℕ = s.board.quotas in
      cases (eqb e d)
      (λ o.
      let placed = quota_placed qs e (quotas_split s.board fine.quotas e fine.caller) in
      let above = ltb-false _ _ (neither (no_quota q) _ ok).1 in
      rw (← (eqb-true e d o), get_or-set_same qs e q 0 placed) above)
      (λ o. rw (get_or-set_other qs e d q 0 (λ z. eqb-false e d o (sym z))) within)

  call_within : (c : Call) → WithinQuota d (outcome s c).next
  unfolding look fault release colours recolour set_quota take_back frames_held frames_with
  call_within (Look e p) = no_more (Look e p) refl (same_quota d s e _ _ refl)
  call_within (Fault e p) = fault_within e p (same_quota d s e _ _ (fault_quota d s (word_of e p) (mapped_to s e p) (choices s e (active_set s.board e))))
  call_within (Release e p) = no_more (Release e p) refl (same_quota d s e _ _ refl)
  call_within (Colours e) = no_more (Colours e) refl (same_quota d s e _ _ refl)
  call_within (Recolour e c lent) = no_more (Recolour e c lent) refl (same_quota d s e _ _ refl)
  call_within (SetQuota e q) = next_any (WithinQuota d) s within e _ _ (λ fine ok. allowed e q fine (passed_first _ _ ok).0)
  call_within (TakeBack e c list) = no_more (TakeBack e c list) refl (same_quota d s e _ _ refl)

-- and so each history
history_within : (d : ℕ) (s : State) → WithinQuota d s → (h : List Call) → WithinQuota d (run s h)
unfolding run
history_within d s within [] = within
history_within d s within (c ∷ cs) = history_within d (outcome s c).next (call_within d s within c) cs

-- nothing is held at the start
pub start_none : (s : State) → Accepted s → Empty s → (d : ℕ) → d < s.board.domains → frames_held s d ≡ 0
unfolding frames_held frames_with
start_none s ok empty d below = ap length (none_kept (is_held s.table d) s.board.frames (none_held s ok empty d below))

pub never_above_quota : NeverAboveQuota
never_above_quota start ok empty d below h = history_within d start (rw (start_none start ok empty d below) zero-le) h

-- a call of another is none of the own calls
not_own : (d e q : ℕ) → (e ≡ d → ⊥) → (h k : List Call) → own d (h ++ k) ≡ own d (h ++ (SetQuota e q ∷ k))
unfolding own
not_own d e q other [] k = rw (ne_eqb e d other) refl
not_own d e q other (c ∷ h) k = rw (not_own d e q other h k) refl

pub others_quota_unseen : OthersQuotaUnseen
others_quota_unseen start ok empty d below e q other h k =
    (domain_rule start ok empty d below (h ++ k) (h ++ (SetQuota e q ∷ k))).1
    (rw (not_own d e q other h k) (refl, λ p small. refl))
