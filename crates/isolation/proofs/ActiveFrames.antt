-- That no held frame is outside its domain's active set: at the start nothing is held, calls of others leave what a domain sees alone, and of its own calls a
-- fault takes a frame of the active set, a recolouring leaves none outside the new one, and 32 refuses a taking back that would.
use Prim.Native.Nat.{ℕ, ◌<◌}
use native.Mathlib.Omega.{arith}
use mathlib.Core.Bool.{true, false, not, ◌&&◌}
use mathlib.Core.List.{List, [], ◌∷◌}
use mathlib.Core.Logic.{◌⊎◌, inl, inr, ⊎_elim}
use mathlib.Core.Path.{◌≡◌, refl, ap, ◌∙◌}
use lib.Dec.{eqb}
use lib.ListN.{length}
use lib.Seq.{get_or-set_same}
use borrow.Author.Tests.{eqb-true, eqb-false, not-false}
use Rattle.lists.specs.Range.{head_or, is_empty}
use Rattle.lists.proofs.CaseSplits.{cases, and_never}
use Rattle.lists.proofs.Members.{Each, head_has}
use Rattle.lists.proofs.FilteredRange.{kept_none}
use Rattle.lists.proofs.Searches.{none_kept}
use Rattle.refusal.specs.Reply.{Answers, Test, unless, passes}
use Rattle.refusal.proofs.Replies.{passed_first}
use Rattle.colours.proofs.Ranges.{count_range}
use Rattle.board.specs.declared.Board.{Board}
use Rattle.board.specs.Tests.{active_set}
use Rattle.board.proofs.PassedTests.{CallAccepted}
use Rattle.calls.specs.Table.{State, word_of, is_of, in_set, is_held, is_stray, frames_with, mapped_to, strays}
use Rattle.calls.specs.FrameChoice.{choices}
use Rattle.calls.specs.Calls.{Done, settle, called, written, look, fault_done, fault, release, colours, recolour, set_quota}
use Rattle.calls.specs.TakeBack.{take_back}
use Rattle.calls.proofs.PageWords.{free_word}
use Rattle.calls.proofs.ChoiceLaws.{Chosen, chosen}
use Rattle.calls.proofs.RecolouringDone.{recoloured, active_placed}
use Rattle.calls.proofs.FramesInside.{none_outside}
use Rattle.calls.proofs.TakingBackDone.{took_back}
use Rattle.isolation.specs.DomainRule.{Call, Look, Fault, Release, Colours, Recolour, SetQuota, TakeBack, names, outcome, run, Accepted, Empty}
use Rattle.isolation.specs.TakingBack.{HeldInActive}
use Rattle.isolation.proofs.AcceptedBoard.{live}
use Rattle.isolation.proofs.TestLists.{unless_any, next_any, small_page}
use Rattle.isolation.proofs.Invariant.{after_write, Good, good}
use Rattle.isolation.proofs.DomainView.{Agree}
use Rattle.isolation.proofs.CallSearches.{mapped, same_strays}
use Rattle.isolation.proofs.InvariantPreservation.{call_keeps}
use Rattle.isolation.proofs.Rule.{start_good, none_held, history_good}

-- no frame of domain d is outside its active set
abbrev pub AllInside : ℕ → State → Type 0
AllInside d s = strays s d (active_set s.board d) ≡ []

-- a call answers, or changes nothing
done_or_same : (s : State) (ts : List Test) (done : Done) → ((settle s (unless ts done)).reply ≡ Answers done.answer) ⊎ ((settle s (unless ts done)).next ≡ s)
unfolding settle
done_or_same s ts done = unless_any (λ o. (o.reply ≡ Answers done.answer) ⊎ (o.next ≡ s)) s (λ n r. inr refl) ts done (λ p. inl refl)

-- The domain's own calls, on any board and table
module _ (d : ℕ) (s : State) (inside : AllInside d s) where
  abbrev c : ℕ
  c = active_set s.board d

  under : (own : List Test) (done : Done) → (CallAccepted s.board (length s.table) d → passes own ≡ true → AllInside d done.next)
      → AllInside d (called s d own done).next
  under = next_any (AllInside d) s inside d

  -- a word that is not the domain's, or in a frame of the set
  wrote_inside : (f w : ℕ) → length s.table ≡ s.board.frames → f < s.board.frames → (is_of d w && not (in_set s.board.colours c f)) ≡ false
      → AllInside d (written s f w)
  unfolding strays frames_with
  wrote_inside f w long low ok =
      let n : ℕ = s.board.colours in
      none_kept _ s.board.frames (λ g h.
      after_write (λ (v : ℕ). (is_of d v && not (in_set n c g)) ≡ false) s.table f w g (omega arith)
      (λ q. rw q ok)
      (λ _. kept_none (is_stray s.table n d c) s.board.frames inside g h))

  fault_done_lem : (p : ℕ) (ms gs : List ℕ) → length s.table ≡ s.board.frames → Each (Chosen s c) gs → (is_empty ms && is_empty gs) ≡ false
      → AllInside d (fault_done s (word_of d p) ms gs).next
  fault_done_lem p (f ∷ ms) gs long all some = inside
  fault_done_lem p [] gs long all some =
      let k = head_has (Chosen s c) gs all some in
      wrote_inside (head_or 0 gs) (word_of d p) long k.below (rw k.inside (and_never (is_of d (word_of d p))))

  release_done : (p : ℕ) → length s.table ≡ s.board.frames → is_empty (mapped_to s d p) ≡ false → AllInside d (written s (head_or 0 (mapped_to s d p)) 0)
  release_done p long some =
      let k = head_has _ (mapped_to s d p) (mapped s.board (live s) d p) some in
      wrote_inside (head_or 0 (mapped_to s d p)) 0 long k.0 (rw (free_word d))

  recolour_inside : (e : ℕ) (lent : List ℕ) → AllInside d (recolour s d e lent).next
  unfolding recolour called
  recolour_inside e lent =
      ⊎_elim
      (λ q.
      let r = recoloured s d e lent _ q in
      let is = ap (λ (b : Board). active_set b d) r.board
      ∙ get_or-set_same s.board.active d e 0 (active_placed s.board (length s.table) d r.fine.passed r.fine.caller) in
      rw is (none_outside s d e lent _ q))
      (λ q. rw q inside)
      (done_or_same s _ _)

  take_back_inside : (e : ℕ) (list : List ℕ) → AllInside d (take_back s d e list).next
  unfolding take_back called
  take_back_inside e list =
      ⊎_elim
      (λ q.
      let r = took_back s d e list _ q in
      let is = get_or-set_same s.board.active d e 0 (active_placed s.board (length s.table) d r.fine.passed r.fine.caller) in
      rw (r.next, is) r.none_outside)
      (λ q. rw q inside)
      (done_or_same s _ _)

own_inside : (s : State) (c : Call) → AllInside (names c) s → AllInside (names c) (outcome s c).next
unfolding look fault release colours set_quota strays frames_with
own_inside s (Look d p) inside = under d s inside _ _ (λ fine ok. inside)
own_inside s (Fault d p) inside =
    let c = active_set s.board d in
    under d s inside _ _ (λ fine ok.
    fault_done_lem d s inside p (mapped_to s d p) (choices s d c) fine.bounds.long
    (chosen s d c (count_range s.board.colours fine.passed.count).0) (passed_first _ _ (passed_first _ _ (small_page p _ ok).1).1).0)
own_inside s (Release d p) inside = under d s inside _ _ (λ fine ok. release_done d s inside p fine.bounds.long (passed_first _ _ (small_page p _ ok).1).0)
own_inside s (Colours d) inside = under d s inside _ _ (λ fine ok. inside)
own_inside s (Recolour d c lent) inside = recolour_inside d s inside c lent
own_inside s (SetQuota d q) inside = under d s inside _ _ (λ fine ok. inside)
own_inside s (TakeBack d c list) inside = take_back_inside d s inside c list

-- what a domain sees tells where its frames are
agree_inside : {b : Board} {t₀ : List ℕ} {d : ℕ} {s r : State} → d < b.domains → Good b t₀ s → Good b t₀ r → Agree b d r s → AllInside d s → AllInside d r
agree_inside below (good inv) (good inv') sees inside = rw sees.active (same_strays inv' inv below sees.words _ ∙ inside)

-- each call, whosever it is, and so each history
module _ {b : Board} {t₀ : List ℕ} {d : ℕ} (below : d < b.domains) where
  call_inside : (s : State) → Good b t₀ s → AllInside d s → (c : Call) → AllInside d (outcome s c).next
  call_inside s g inside c =
      let kept = call_keeps g c in
      cases (eqb (names c) d)
      (λ e. let q = eqb-true (names c) d e in rw (← q) (own_inside s c (rw q inside)))
      (λ e. agree_inside below g kept.good_next (kept.others d below (eqb-false (names c) d e)) inside)

  pub history_inside : (s : State) → Good b t₀ s → AllInside d s → (h : List Call) → AllInside d (run s h)
  unfolding run
  history_inside s g inside [] = inside
  history_inside s g inside (c ∷ cs) = history_inside (outcome s c).next (call_keeps g c).good_next (call_inside s g inside c) cs

-- at the start nothing is held
pub start_inside : (s : State) → Accepted s → Empty s → (d : ℕ) → d < s.board.domains → AllInside d s
unfolding strays frames_with
start_inside s ok empty d below =
    none_kept _ s.board.frames (λ f l. rw (none_held s ok empty d below f l))

pub held_in_active : HeldInActive
unfolding strays frames_with
held_in_active start ok empty d f below low h held =
    go (run start h) (history_good start (start_good start ok empty) h)
    (history_inside below start (start_good start ok empty) (start_inside start ok empty d below) h) held
  where
    go : (s : State) → Good start.board start.table s → AllInside d s → is_held s.table d f ≡ true
        → in_set start.board.colours (active_set s.board d) f ≡ true
    go s (good {x = x} inv) inside held =
        not-false _ (rw held at (kept_none (is_stray x.table start.board.colours d (active_set s.board d)) start.board.frames inside f low))
