-- Moves in page order: document 02, No. 4. What a recolouring writes to its move list, of any board and table and whatever the list held.
use Rattle.std.specs.Prelude.{ℕ, ◌*◌, ◌<◌, ◌⊎◌, ◌≡◌, length, take, drop}
use mathlib.Core.List.{List, [], ◌∷◌, Permᴰ}
use Rattle.refusal.specs.Reply.{Answers, Refuses}
use Rattle.calls.specs.Table.{State}
use Rattle.calls.specs.Calls.{Moved, Move, pairs, move_all, recolour, triples}
use Rattle.isolation.specs.DomainRule.{Recolour, told}

-- Move a stands before move b: by page, equal pages by old frame.
abbrev pub Before : Move → Move → Type 0
Before a b = (a.page < b.page) ⊎ ((a.page ≡ b.page) × (a.source < b.source))

-- Each move of a list stands before all later ones.
abbrev pub BeforeAll : Move → List Move → Type 0
BeforeAll m [] = Unit {0}
BeforeAll m (a ∷ ms) = Before m a × BeforeAll m ms

abbrev pub Ascending : List Move → Type 0
Ascending [] = Unit {0}
Ascending (m ∷ ms) = BeforeAll m ms × Ascending ms

pub record PageOrderClaims : Type 0 where
  -- The moves stand in page order.
  pub in_page_order : (s : State) (d c : ℕ) (lent : List ℕ) → Ascending (recolour s d c lent).moves
  -- They are those that were chosen, each once, so that which frame goes where does not change; the answer counts them. No other list of them is in page
  -- order.
  pub each_once :
      (s : State) (d c : ℕ) (lent : List ℕ) (n : ℕ) → (recolour s d c lent).reply ≡ Answers (Moved n)
      → Permᴰ (recolour s d c lent).moves (pairs s d c)
  pub count_is :
      (s : State) (d c : ℕ) (lent : List ℕ) (n : ℕ) → (recolour s d c lent).reply ≡ Answers (Moved n)
      → length (recolour s d c lent).moves ≡ n
  pub only_list :
      (s : State) (d c : ℕ) (lent : List ℕ) (n : ℕ) → (recolour s d c lent).reply ≡ Answers (Moved n)
      → (ms : List Move) → Permᴰ ms (pairs s d c) → Ascending ms → ms ≡ (recolour s d c lent).moves
  -- They can be made in this order: one after the other they leave the table that the call leaves.
  pub table_by_list :
      (s : State) (d c : ℕ) (lent : List ℕ) (n : ℕ) → (recolour s d c lent).reply ≡ Answers (Moved n)
      → move_all s.table (recolour s d c lent).moves ≡ (recolour s d c lent).next.table
  -- What the domain is told of its list, word by word: the triples of the moves, then the words past them as they were. A recolouring that is refused
  -- changes no word.
  pub triples_told :
      (s : State) (d c : ℕ) (lent : List ℕ)
      → let ms = (recolour s d c lent).moves in take (3 * length ms) (told s (Recolour d c lent)).list ≡ triples ms
  pub rest_stays :
      (s : State) (d c : ℕ) (lent : List ℕ)
      → let ms = (recolour s d c lent).moves in drop (3 * length ms) (told s (Recolour d c lent)).list ≡ drop (3 * length ms) lent
  pub refused_stays :
      (s : State) (d c : ℕ) (lent : List ℕ) (n r : ℕ) → (recolour s d c lent).reply ≡ Refuses n r → (told s (Recolour d c lent)).list ≡ lent
