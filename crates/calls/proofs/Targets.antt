-- The targets of a recolouring: each is the first choice of the domain for the new set, on the table that the moves before it leave. What a move vacates is
-- outside the set.
use Prim.Native.Nat.{ℕ, zero, suc, ◌<◌, ◌≤◌}
use native.Mathlib.Nat.{le_refl, lt_irrefl}
use native.Mathlib.Omega.{arith}
use mathlib.Core.Bool.{false, true≢false}
use mathlib.Core.List.{List, [], ◌∷◌}
use mathlib.Core.Path.{◌≡◌, refl, sym, ap, ◌∙◌}
use lib.ListN.{length, set, length-set}
use lib.Seq.{get_or-set_other}
use borrow.Author.Tests.{not-true}
use Rattle.lists.specs.Range.{from, keep, is_empty, head_or}
use Rattle.lists.proofs.CaseSplits.{cases, and_both}
use Rattle.refusal.specs.Reply.{Answers}
use Rattle.board.specs.declared.Board.{Board}
use Rattle.calls.specs.Table.{State, state_of, word, in_set, is_held, is_stray, frames_with, strays}
use Rattle.calls.specs.FrameChoice.{choices}
use Rattle.calls.specs.Calls.{Moved, Move, pair_up, pairs, move, recolour}
use Rattle.calls.proofs.ChoiceLaws.{First, first, some_member}
use Rattle.calls.proofs.SuccessiveChoices.{move_by_move}
use Rattle.calls.proofs.RecolouringDone.{recoloured}

abbrev pub EachFirst : State → ℕ → ℕ → List Move → Type 0
EachFirst s d c [] = Unit {0}
EachFirst s d c (m ∷ ms) =
    First s d c m.target × (in_set s.board.colours c m.source ≡ false) × EachFirst (state_of s.board (move s.table m)) d c ms

-- The moves of the strays from frame i on: the words outside the set are still those of table t₀ there
module _ (b : Board) (d c : ℕ) (coloured : 0 < b.colours) (t₀ : List ℕ) where
  abbrev Outside : List ℕ → ℕ → Type 0
  Outside t i = (f : ℕ) → i ≤ f → in_set b.colours c f ≡ false → word t f ≡ word t₀ f

  each_first : (k i : ℕ) (t : List ℕ) → length t ≡ b.frames → Outside t i
      → length (keep (is_stray t₀ b.colours d c) (from i k)) ≤ length (choices (state_of b t) d c)
      → EachFirst (state_of b t) d c (pair_up d t₀ (keep (is_stray t₀ b.colours d c) (from i k)) (choices (state_of b t) d c))
  unfolding keep from pair_up
  each_first zero i t long same room = tt
  each_first (suc k) i t long same room =
      cases (is_stray t₀ b.colours d c i)
      (λ e.
      let s : State = state_of b t in
      let g : ℕ = head_or 0 (choices s d c) in
      let out : in_set b.colours c i ≡ false = not-true (in_set b.colours c i) (and_both (is_held t₀ d i) _ e).1 in
      let some : is_empty (choices s d c) ≡ false = some_member (choices s d c) (omega (arith, rw e at room)) in
      let next = move_by_move s d c i coloured long (rw (same i (le_refl i) out) e) some in
      let in_set_lem = (first s d c coloured some).choice.inside in
      let u : List ℕ = set (set t i 0) g (word t i) in
      let still : Outside u (suc i) = λ f l o.
      get_or-set_other (set t i 0) g f (word t i) 0 (λ z. true≢false (sym in_set_lem ∙ rw (← z) o))
      ∙ get_or-set_other t i f 0 0 (λ z. lt_irrefl i (omega arith))
      ∙ same f (omega arith) o in
      let rest = each_first k (suc i) u (length-set (set t i 0) g _ ∙ length-set t i _ ∙ long) still (omega (arith, rw e at room, ap length next)) in
      rw (e, next) (first s d c coloured some, out, rest))
      (λ e. rw e (each_first k (suc i) t long (λ f l o. same f (omega arith) o) (rw e at room)))

-- of a recolouring that is done
pub each_target_first : (s : State) (d c : ℕ) (lent : List ℕ) (n : ℕ) → (recolour s d c lent).reply ≡ Answers (Moved n)
    → EachFirst s d c (pairs s d c)
unfolding strays frames_with
each_target_first s d c lent n e =
    let r = recoloured s d c lent n e in
    each_first s.board d c r.coloured s.table s.board.frames 0 s.table r.fine.bounds.long (λ f l o. refl) r.room
