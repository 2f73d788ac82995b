-- A recolouring that is done leaves the domain no frame outside its new set: there is a target for each frame outside it, a moved word goes inside it, and
-- every other word stays.
use Prim.Native.Nat.{ℕ, zero, suc, ◌+◌, ◌<◌, ◌≤◌}
use native.Mathlib.Nat.{lt_irrefl, eq-or-lt_of_le}
use native.Mathlib.Omega.{arith}
use mathlib.Core.Bool.{Bool, true, false, true≢false, false≢true, or-true}
use mathlib.Core.List.{List, [], ◌∷◌}
use mathlib.Core.Logic.{⊎_elim}
use mathlib.Core.Path.{◌≡◌, sym, ap, ◌∙◌}
use lib.Dec.{eqb}
use lib.ListN.{length, set, length-set}
use lib.Seq.{get_or-set_same, get_or-set_other}
use borrow.Author.Tests.{eqb-true, eqb-false, eq-eqb, lt-leb, not-true}
use Rattle.lists.specs.Range.{from, keep, any_of}
use Rattle.lists.proofs.CaseSplits.{cases, and_both}
use Rattle.lists.proofs.Members.{Each}
use Rattle.lists.proofs.FilteredRange.{each_map, kept}
use Rattle.lists.proofs.Searches.{none_kept}
use Rattle.refusal.specs.Reply.{Answers}
use Rattle.calls.specs.Table.{State, word, word_of, is_of, in_set, is_held, is_stray, frames_with, strays}
use Rattle.calls.specs.FrameChoice.{choices}
use Rattle.calls.specs.Calls.{Moved, pair_up, move_all, recolour}
use Rattle.calls.proofs.ChoiceLaws.{Chosen, chosen}
use Rattle.calls.proofs.RecolouringDone.{recoloured}

-- a number of a range that passes a test is kept
kept_there : (p : ℕ → Bool) (k i f : ℕ) → i ≤ f → f < i + k → p f ≡ true → any_of (eqb f) (keep p (from i k)) ≡ true
unfolding keep from
kept_there p zero i f l h e = absurd (lt_irrefl f (omega arith))
kept_there p (suc k) i f l h e =
    ⊎_elim
    (λ z. let here : p i ≡ true = rw z e in rw (here, eq-eqb f i (sym z)))
    (λ m.
    let rest = kept_there p k (suc i) f m (omega arith) e in
    cases (p i) (λ o. rw (o, rest) (or-true (eqb f i))) (λ o. rw o rest))
    (eq-or-lt_of_le l)

module _ (n m d c : ℕ) (t₀ : List ℕ) where
  -- each frame outside the set is one of a list
  abbrev Left : List ℕ → List ℕ → Type 0
  Left t vs = (f : ℕ) → f < m → is_stray t n d c f ≡ true → any_of (eqb f) vs ≡ true

  -- a move from the first of them into the set leaves the others
  one_less_lem : (t : List ℕ) (v g : ℕ) (vs : List ℕ) → length t ≡ m → v < m → in_set n c g ≡ true → Left t (v ∷ vs) → Left (set (set t v 0) g (word t v)) vs
  one_less_lem t v g vs long low inside left f l e =
      let o = and_both (is_held (set (set t v 0) g (word t v)) d f) _ e in
      let other : f ≡ g → ⊥ = λ z. true≢false (sym inside ∙ rw (← z) (not-true _ o.1)) in
      let from_v : word (set (set t v 0) g (word t v)) f ≡ word (set t v 0) f = get_or-set_other (set t v 0) g f (word t v) 0 other in
      cases (eqb f v)
      (λ q.
      let none : word (set t v 0) f ≡ 0 = rw (eqb-true f v q) (get_or-set_same t v 0 0 (omega arith)) in
      absurd (true≢false (sym o.0 ∙ ap (is_of d) (from_v ∙ none) ∙ rw (lt-leb (word_of d 0) 0 (omega arith)))))
      (λ q.
      let same = from_v ∙ get_or-set_other t v f 0 0 (eqb-false f v q) in
      rw q at (left f l (rw same at e)))

  none_left : (vs gs t : List ℕ) → length t ≡ m → length vs ≤ length gs → Each (λ (v : ℕ). v < m) vs → Each (λ (g : ℕ). in_set n c g ≡ true) gs
      → Left t vs → (f : ℕ) → f < m → is_stray (move_all t (pair_up d t₀ vs gs)) n d c f ≡ false
  unfolding pair_up move_all
  none_left [] gs t long room low inside left f l = cases (is_stray t n d c f) (λ e. absurd (false≢true (left f l e))) (λ e. e)
  none_left (v ∷ vs) [] t long room low inside left f l = absurd (lt_irrefl 0 (omega (arith, room)))
  none_left (v ∷ vs) (g ∷ gs) t long room low inside left f l =
      none_left vs gs (set (set t v 0) g (word t v)) (simp length-set long) (omega (arith, room)) low.1 inside.1
      (one_less_lem t v g vs long low.0 inside.0 left) f l

pub none_outside : (s : State) (d c : ℕ) (lent : List ℕ) (n : ℕ) → (recolour s d c lent).reply ≡ Answers (Moved n) → strays (recolour s d c lent).next d c ≡ []
unfolding strays frames_with
none_outside s d c lent n e =
    let r = recoloured s d c lent n e in
    let stray : ℕ → Bool = is_stray s.table s.board.colours d c in
    let m : ℕ = s.board.frames in
    rw (r.board, r.table)
    (none_kept _ m (none_left s.board.colours m d c s.table (strays s d c) (choices s d c) s.table r.fine.bounds.long r.room
    (each_map (λ (v : ℕ). (v < m) × (stray v ≡ true)) (λ (v : ℕ). v < m) (λ v h. h.0) (strays s d c) (kept stray m))
    (each_map (Chosen s c) (λ (g : ℕ). in_set s.board.colours c g ≡ true) (λ g h. h.inside) (choices s d c) (chosen s d c r.coloured))
    (λ f l h. kept_there stray m 0 f (omega arith) (omega arith) h)))
