-- How many frames a domain holds, after a word of the table is written and after moves to free frames. It knows no call.
use Rattle.std.specs.Prelude.{if◌then◌else◌}
use Prim.Native.Nat.{ℕ, ◌+◌, ◌<◌, zero-le}
use native.Mathlib.Omega.{arith}
use mathlib.Core.Bool.{Bool}
use mathlib.Core.List.{List, [], ◌∷◌}
use mathlib.Core.Path.{◌≡◌, refl, sym, ap, ◌∙◌}
use lib.Dec.{eqb}
use lib.ListN.{length, set, length-set}
use lib.Seq.{get_or-set_same, get_or-set_other}
use borrow.Author.Tests.{eqb-true, eqb-false}
use Rattle.lists.specs.Range.{upto, keep}
use Rattle.lists.proofs.CaseSplits.{cases}
use Rattle.lists.proofs.FilteredRange.{same_kept}
use Rattle.lists.proofs.AgreeingTests.{one_more}
use Rattle.calls.specs.Table.{word, is_of, is_held}
use Rattle.calls.specs.Calls.{Move, move, move_all}
use Rattle.calls.proofs.PageWords.{free_word}
use Rattle.calls.proofs.Moves.{EachMove, Sorted}
use Rattle.calls.proofs.AnyOrder.{Apart}
use Rattle.calls.proofs.Undoing.{move_length, move_off}

-- one where a test passes
abbrev pub one : Bool → ℕ
one b = if b then 1 else 0

-- a move between frames of a table, the new one free
pub record Vacant (t : List ℕ) (m : Move) : Type 0 where
  pub from_frame : m.source < length t
  pub to_frame : m.target < length t
  pub free : word t m.target ≡ 0

-- of m frames, how many have a word of domain d
module _ (d m : ℕ) where
  abbrev pub held : List ℕ → ℕ
  held t = length (keep (is_held t d) (upto m))

  -- a write counts by what its frame was to the domain, and what it is now
  module _ (t : List ℕ) (f w : ℕ) (long : length t ≡ m) (low : f < m) where
    here : is_held (set t f w) d f ≡ is_of d w
    here = ap (is_of d) (get_or-set_same t f w 0 (omega arith))

    elsewhere : (g : ℕ) → (g ≡ f → ⊥) → is_held (set t f w) d g ≡ is_held t d g
    elsewhere g other = ap (is_of d) (get_or-set_other t f g w 0 other)

    as_many : is_held t d f ≡ is_of d w → held (set t f w) ≡ held t
    as_many same =
        ap length (same_kept _ _ m (λ g l.
        cases (eqb g f)
        (λ e. rw (eqb-true g f e) (here ∙ sym same))
        (λ e. elsewhere g (eqb-false g f e))))

    pub write_held : held (set t f w) + one (is_held t d f) ≡ held t + one (is_of d w)
    write_held =
        cases (is_held t d f)
        (λ was.
        cases (is_of d w)
        (λ is. rw (was, is) (omega (arith, as_many (was ∙ sym is))))
        (λ is. rw (was, is) (omega (arith, one_more _ _ f elsewhere (here ∙ is) was m 0 zero-le (omega arith)))))
        (λ was.
        cases (is_of d w)
        (λ is. rw (was, is) (omega (arith, one_more _ _ f (λ g z. sym (elsewhere g z)) was (here ∙ is) m 0 zero-le (omega arith))))
        (λ is. rw (was, is) (omega (arith, as_many (was ∙ sym is)))))

  -- a move to a free frame carries a word on
  move_held : (t : List ℕ) (s : Move) → length t ≡ m → Vacant t s → held (move t s) ≡ held t
  move_held t s long k =
      let v : ℕ = s.source in
      let g : ℕ = s.target in
      let cleared : List ℕ = set t v 0 in
      let still : word cleared g ≡ 0 =
      cases (eqb g v)
      (λ e. rw (eqb-true g v e) (get_or-set_same t v 0 0 k.from_frame))
      (λ e. get_or-set_other t v g 0 0 (eqb-false g v e) ∙ k.free) in
      let first = write_held t v 0 long (omega (arith, k.from_frame)) in
      let second = write_held cleared g (word t v) (length-set t v 0 ∙ long) (omega (arith, k.to_frame)) in
      omega (arith, rw (free_word d) at first, rw (still, free_word d) at second)

  -- and so do moves to different ones
  pub moves_held : (ms : List Move) (t : List ℕ) → length t ≡ m → EachMove (Vacant t) ms → Sorted Apart ms → held (move_all t ms) ≡ held t
  unfolding move_all
  moves_held [] t long vacant apart = refl
  moves_held (s ∷ ms) t long vacant apart =
      moves_held ms (move t s) (move_length t s ∙ long) (still ms vacant.1 apart.0) apart.1 ∙ move_held t s long vacant.0
    where
      still : (l : List Move) → EachMove (Vacant t) l → EachMove (Apart s) l → EachMove (Vacant (move t s)) l
      still [] vacant apart = tt
      still (a ∷ l) vacant apart =
          let k = vacant.0 in
          let o = apart.0 in (
            record {
              from_frame = rw (move_length t s) k.from_frame;
              to_frame = rw (move_length t s) k.to_frame;
              free = move_off t s a.target (λ e. o.out_in (sym e), λ e. o.targets (sym e)) ∙ k.free;
            },
            still l vacant.1 apart.1,
          )
