-- What a domain sees of a state: its active set, its quota, and the words of the frames of its grant. It knows no call.
use Prim.Native.Nat.{ℕ, ◌<◌}
use mathlib.Core.Bool.{true}
use mathlib.Core.List.{List}
use mathlib.Core.Path.{◌≡◌, refl, sym, ◌∙◌}
use Rattle.board.specs.declared.Board.{Board}
use Rattle.board.specs.Tests.{active_set, quota}
use Rattle.calls.specs.Table.{State, word}
use Rattle.isolation.proofs.Invariant.{granted}

-- the same words in the frames of domain d
abbrev pub SameWords : Board → ℕ → List ℕ → List ℕ → Type 0
SameWords b d t u = (f : ℕ) → f < b.frames → granted b d f ≡ true → word t f ≡ word u f

-- two states agree in what domain d sees
pub record Agree (b : Board) (d : ℕ) (s r : State) : Type 0 where
  pub active : active_set s.board d ≡ active_set r.board d
  pub allowed : quota s.board d ≡ quota r.board d
  pub words : SameWords b d s.table r.table

module _ {b : Board} {d : ℕ} where
  pub agree_self : (s : State) → Agree b d s s
  agree_self s = record { active = refl; allowed = refl; words = λ f h g. refl }

  pub agree_back : {s r : State} → Agree b d s r → Agree b d r s
  agree_back k = record { active = sym k.active; allowed = sym k.allowed; words = λ f h g. sym (k.words f h g) }

  pub agree_on : {s r q : State} → Agree b d s r → Agree b d r q → Agree b d s q
  agree_on k l = record { active = k.active ∙ l.active; allowed = k.allowed ∙ l.allowed; words = λ f h g. k.words f h g ∙ l.words f h g }
