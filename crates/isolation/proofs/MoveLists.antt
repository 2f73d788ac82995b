-- What a recolouring tells a domain of its move list: the triples, then the words past them as they were; and the whole list as it was where it is refused.
-- A taking back only reads it.
use Prim.Native.Nat.{ℕ, ◌*◌}
use mathlib.Core.List.{List}
use mathlib.Core.Path.{◌≡◌}
use lib.ListN.{length, take, drop}
use Rattle.refusal.specs.Reply.{Refuses}
use Rattle.calls.specs.Table.{State}
use Rattle.calls.specs.Calls.{Move, recolour, triples}
use Rattle.calls.proofs.MoveList.{first_words, other_words, refused_list}
use Rattle.calls.proofs.TakingBackDone.{none_written}
use Rattle.isolation.specs.DomainRule.{Recolour, TakeBack, told}

module _ (s : State) (d c : ℕ) (lent : List ℕ) where
  abbrev moves : List Move
  moves = (recolour s d c lent).moves

  pub triples_told : take (3 * length moves) (told s (Recolour d c lent)).list ≡ triples moves
  triples_told = first_words moves lent

  pub rest_stays : drop (3 * length moves) (told s (Recolour d c lent)).list ≡ drop (3 * length moves) lent
  rest_stays = other_words moves lent

  pub refused_stays : (n r : ℕ) → (recolour s d c lent).reply ≡ Refuses n r → (told s (Recolour d c lent)).list ≡ lent
  refused_stays = refused_list s d c lent

  pub list_stays : (told s (TakeBack d c lent)).list ≡ lent
  unfolding triples
  list_stays = rw (none_written s d c lent)
