-- Taking a recolouring back, after calls of others. At once it leaves the very state that the recolouring found, since no frame of the domain was outside its
-- active set then; and calls of others leave what the domain sees alone, so that it goes on from there to all that the domain saw.
use Prim.Native.Nat.{ℕ, ◌*◌, ◌<◌}
use mathlib.Core.Bool.{true}
use mathlib.Core.List.{List, []}
use mathlib.Core.Path.{◌≡◌, refl, sym, ap, ◌∙◌}
use lib.Dec.{eqb}
use lib.ListN.{take}
use borrow.Author.Tests.{eq-eqb}
use Rattle.refusal.specs.Reply.{Answers}
use Rattle.board.specs.declared.Board.{Board}
use Rattle.board.specs.Tests.{active_set}
use Rattle.calls.specs.Table.{State}
use Rattle.calls.specs.Calls.{Moved, Outcome, recolour, triples, listed}
use Rattle.calls.specs.TakeBack.{take_back}
use Rattle.calls.proofs.RecolouringDone.{recoloured}
use Rattle.calls.proofs.MoveList.{first_words, move_count}
use Rattle.calls.proofs.Undoing.{undone}
use Rattle.isolation.specs.DomainRule.{Call, Look, Colours, Recolour, TakeBack, names, outcome, run, own, Told, told, Accepted, Empty}
use Rattle.isolation.specs.TakingBack.{wrote, TakingBackRestores, TakingBackUnseen, TakingBackAtOnce}
use Rattle.isolation.proofs.Invariant.{Good, good}
use Rattle.isolation.proofs.InvariantPreservation.{call_keeps}
use Rattle.isolation.proofs.Rule.{start_good, history_good, Related, own_step, others_unseen, looks_same}
use Rattle.isolation.proofs.ActiveFrames.{history_inside, start_inside}

-- the count of domains is that of the start
same_domains : {b : Board} {t₀ : List ℕ} {s : State} → Good b t₀ s → (d : ℕ) → d < s.board.domains → d < b.domains
same_domains (good inv) d below = below

module _ (start : State) (ok : Accepted start) (empty : Empty start) (h : List Call) (d c : ℕ) (lent : List ℕ) (n : ℕ)
    (e : (recolour (run start h) d c lent).reply ≡ Answers (Moved n)) where
  abbrev s : State
  s = run start h

  abbrev done : Outcome
  done = recolour s d c lent

  abbrev former : ℕ
  former = active_set s.board d

  -- the words are the triples of its moves
  words : wrote done lent n ≡ triples done.moves
  words = ap (λ (k : ℕ). take (3 * k) (listed done.moves lent)) (sym (move_count s d c lent n e)) ∙ first_words done.moves lent

  found : Good start.board start.table s
  found = history_good start (start_good start ok empty) h

  below : d < start.board.domains
  below = same_domains found d (recoloured s d c lent n e).fine.caller

  at_once : take_back done.next d former (wrote done lent n) ≡ record { reply = Answers (Moved n); moves = []; next = s }
  at_once = rw words (undone s d c lent n e (history_inside below start (start_good start ok empty) (start_inside start ok empty d below) h))

  -- after calls of others the domain sees what the recolouring left
  module _ (others : List Call) (alone : own d others ≡ []) where
    abbrev last : Call
    last = TakeBack d former (wrote done lent n)

    later : Related start.board start.table d (run done.next others) done.next
    later = others_unseen below done.next (call_keeps found (Recolour d c lent)).good_next others alone

    abbrev back : Outcome
    back = outcome (run done.next others) last

    same : (told (run done.next others) last ≡ told done.next last) × Related start.board start.table d back.next (outcome done.next last).next
    same = own_step below (run done.next others) done.next last later (eq-eqb d d refl)

    answered : back.reply ≡ Answers (Moved n)
    answered = ap (λ (a : Told). a.reply) same.0 ∙ ap (λ (o : Outcome). o.reply) at_once

    as_before : Related start.board start.table d back.next s
    as_before = rw (ap (λ (o : Outcome). o.next) at_once) at same.1

    shown : (a : Call) → eqb (names a) d ≡ true → (outcome back.next a).reply ≡ (outcome s a).reply
    shown a its = ap (λ (r : Told). r.reply) (own_step below back.next s a as_before its).0

-- that no call between is an own one may stand either way round
pub taking_back_restores : TakingBackRestores
taking_back_restores start ok empty h d c lent n e others alone = (
  answered start ok empty h d c lent n e others (cc),
  shown start ok empty h d c lent n e others (cc) (Colours d) (eq-eqb d d refl),
  λ p small. shown start ok empty h d c lent n e others (cc) (Look d p) (eq-eqb d d refl),
)

pub taking_back_unseen : TakingBackUnseen
taking_back_unseen start ok empty h d c lent n e others alone =
    looks_same (below start ok empty h d c lent n e) _ _ (as_before start ok empty h d c lent n e others (cc))

pub taking_back_at_once : TakingBackAtOnce
taking_back_at_once start ok empty h d c lent n e = ap (λ (o : Outcome). o.next) (at_once start ok empty h d c lent n e)
