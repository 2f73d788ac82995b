-- What colours and look tell a domain determines all that it sees: its active set, its quota, and the words of the frames of its grant. That look
-- shows only the lowest frame of a page is enough, since no page has two; and frames that look does not show are reserved, in both states
-- just those of the start, or free.
use Prim.Native.Nat.{ℕ, ◌<◌, ◌≤◌}
use mathlib.Core.Bool.{true, false}
use mathlib.Core.List.{List, [], ◌∷◌}
use mathlib.Core.Path.{◌≡◌, refl, sym, ap, ◌∙◌}
use borrow.Author.Tests.{eqb-true, lt-ltb, le-ltb}
use Rattle.lists.proofs.Members.{Each}
use Rattle.refusal.specs.Reply.{Answers, unless}
use Rattle.board.specs.declared.Board.{Board}
use Rattle.board.specs.Tests.{bad_quotas}
use Rattle.calls.specs.Table.{State, word, word_of, has_word, mapped_to}
use Rattle.calls.specs.Calls.{Mapped, Active, settle, look_answer, look, colours}
use Rattle.isolation.specs.DomainRule.{SameColours, SameMap}
use Rattle.isolation.proofs.AcceptedBoard.{Live, at, set_of, limit_of}
use Rattle.isolation.proofs.TestLists.{called_accepted}
use Rattle.isolation.proofs.Invariant.{PageWord, Lawful, free, reserved, held, Inv, Good, good, held_own}
use Rattle.isolation.proofs.DomainView.{SameWords, Agree}
use Rattle.isolation.proofs.CallSearches.{mapped, unmapped}

module _ {b : Board} {t₀ : List ℕ} {d : ℕ} (awake : bad_quotas b ≡ false) (below : d < b.domains) where
  module _ {x : Live} (inv : Inv b t₀ x) where
    colours_told : (colours (at b x) d).reply ≡ Answers (Active (set_of x d) (limit_of x d))
    unfolding colours unless settle
    colours_told = rw (called_accepted (at b x) d _ _ inv.accepted, inv.quotas, awake, lt-ltb d b.domains below)

    look_told : (p : ℕ) → p ≤ 4095 → (look (at b x) d p).reply ≡ Answers (look_answer (mapped_to (at b x) d p))
    unfolding look unless settle
    look_told p small = rw (called_accepted (at b x) d _ _ inv.accepted, inv.quotas, awake, lt-ltb d b.domains below, le-ltb 4095 p small)

    module _ (p f : ℕ) where
      abbrev Has : ℕ → Type 0
      Has g = (g < b.frames) × (has_word x.table (word_of d p) g ≡ true)

      -- look answers the frame that has the word
      look_finds : p ≤ 4095 → f < b.frames → word x.table f ≡ word_of d p → look_answer (mapped_to (at b x) d p) ≡ Mapped f
      look_finds small h q = go (mapped_to (at b x) d p) (mapped b x d p) (λ e. unmapped b x d p e f h q)
        where
          go : (ms : List ℕ) → Each Has ms → (ms ≡ [] → ⊥) → look_answer ms ≡ Mapped f
          go [] all some = absurd (some refl)
          go (g ∷ ms) all some = ap Mapped (inv.unique d p g f below small all.0.0 h (eqb-true _ _ all.0.1) q)

      -- and a frame that look answers has the word
      look_found : look_answer (mapped_to (at b x) d p) ≡ Mapped f → word x.table f ≡ word_of d p
      look_found = go (mapped_to (at b x) d p) (mapped b x d p)
        where
          go : (ms : List ℕ) → Each Has ms → look_answer ms ≡ Mapped f → word x.table f ≡ word_of d p
          go [] all e = cc
          go (g ∷ ms) all e = let same : g ≡ f = cc in rw (← same) (eqb-true _ _ all.0.1)

  -- a word of the domain in one state is there in another with the same map
  carried : {x y : Live} → Inv b t₀ x → Inv b t₀ y → SameMap d (at b x) (at b y) → (f : ℕ) → f < b.frames
      → PageWord d (word x.table f) → word y.table f ≡ word x.table f
  carried {x} {y} inv inv' map f h k =
      let told = sym (look_told inv k.page k.small) ∙ map k.page k.small ∙ look_told inv' k.page k.small in
      let same : look_answer (mapped_to (at b x) d k.page) ≡ look_answer (mapped_to (at b y) d k.page) = cc in
      look_found inv' k.page f (sym same ∙ look_finds inv k.page f k.small h k.is) ∙ sym k.is

  words_told : {x y : Live} → Inv b t₀ x → Inv b t₀ y → SameMap d (at b x) (at b y) → SameWords b d x.table y.table
  words_told {x} {y} inv inv' map f h g = same (inv.lawful f h) (inv'.lawful f h)
    where
      same : Lawful b f (word x.table f) → Lawful b f (word y.table f) → word x.table f ≡ word y.table f
      same (held k) l = sym (carried inv inv' map f h (held_own inv below g k))
      same (reserved r) l = r ∙ sym ((inv'.reserved f h).1 ((inv.reserved f h).0 r))
      same (free z) (held k) = carried inv' inv (λ p l. sym (map p l)) f h (held_own inv' below g k)
      same (free z) (reserved r) = (inv.reserved f h).1 ((inv'.reserved f h).0 r) ∙ sym r
      same (free z) (free z') = z ∙ sym z'

  pub reveals : {s r : State} → Good b t₀ s → Good b t₀ r → SameColours d s r → SameMap d s r → Agree b d s r
  reveals (good inv) (good inv') same map =
      let e = sym (colours_told inv) ∙ same ∙ colours_told inv' in
      record { active = cc; allowed = cc; words = words_told inv inv' map }
