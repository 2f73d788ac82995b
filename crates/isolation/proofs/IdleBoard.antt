-- A board that passes 2 to 7 and has a quota that is none: 26 refuses every call, so that the start is all that there ever is.
use Prim.Native.Nat.{ℕ}
use mathlib.Core.Bool.{true}
use mathlib.Core.List.{List}
use mathlib.Core.Path.{◌≡◌, refl, sym, ap, ◌∙◌}
use Rattle.refusal.specs.Reply.{Test, unless}
use Rattle.board.specs.Tests.{bad_quotas}
use Rattle.calls.specs.Table.{State}
use Rattle.calls.specs.Calls.{Done, settle, called, look, fault, release, colours, recolour, set_quota}
use Rattle.calls.specs.TakeBack.{take_back}
use Rattle.isolation.specs.DomainRule.{Call, Look, Fault, Release, Colours, Recolour, SetQuota, TakeBack, outcome, told, SameColours, SameMap, Accepted}
use Rattle.isolation.proofs.TestLists.{called_accepted}

-- both states are the start
abbrev pub Still : State → State → State → Type 0
Still start s r = (s ≡ start) × (r ≡ start)

module _ (start : State) (ok : Accepted start) (asleep : bad_quotas start.board ≡ true) where
  refused : (d : ℕ) (own : List Test) (done : Done) → (called start d own done).next ≡ start
  unfolding unless settle
  refused d own done = rw (called_accepted start d own done ok, asleep) refl

  idle : (c : Call) → (outcome start c).next ≡ start
  unfolding look fault release colours recolour set_quota take_back
  idle (Look d p) = refused d _ _
  idle (Fault d p) = refused d _ _
  idle (Release d p) = refused d _ _
  idle (Colours d) = refused d _ _
  idle (Recolour d c list) = refused d _ _
  idle (SetQuota d q) = refused d _ _
  idle (TakeBack d c list) = refused d _ _

  still_next : (s : State) (c : Call) → s ≡ start → (outcome s c).next ≡ start
  still_next s c q = ap (λ (u : State). (outcome u c).next) q ∙ idle c

  -- what the unwinding asks
  pub still_own : (s r : State) (c : Call) → Still start s r → (told s c ≡ told r c) × Still start (outcome s c).next (outcome r c).next
  still_own s r c k = (ap (λ (u : State). told u c) (k.0 ∙ sym k.1), (still_next s c k.0, still_next r c k.1))

  pub still_other : (s r : State) (c : Call) → Still start s r → Still start (outcome s c).next r
  still_other s r c k = (still_next s c k.0, k.1)

module _ (start : State) where
  pub still_left : (s r : State) → Still start s r → Still start s s
  still_left s r k = (k.0, k.0)

  pub still_shown : (d : ℕ) (s r : State) → s ≡ start → r ≡ start → SameColours d s r × SameMap d s r
  still_shown d s r e q = rw (e, q) (refl, λ p small. refl)
