-- The domain's frames outside the former set, counted: those that there are before the moves back are those that are left after them and the new frames
-- outside it. So 32 is told by two counts. And a list that 31 lets through has at most F frames.
use Prim.Native.Nat.{ℕ, ◌+◌, ◌*◌, ◌<◌, ◌≤◌, zero-le}
use native.Mathlib.Omega.{arith}
use mathlib.Core.Bool.{Bool, true, false, not, ◌&&◌, ◌||◌}
use mathlib.Core.List.{List, [], ◌∷◌}
use mathlib.Core.Path.{◌≡◌, refl, sym, ap, ap₂, ◌∙◌}
use lib.Dec.{eqb}
use lib.ListN.{length, set, length-set}
use lib.Seq.{get_or-set_same, get_or-set_other}
use borrow.Author.Tests.{eqb-true, eqb-false}
use Rattle.lists.specs.Range.{upto, keep, any_of}
use Rattle.lists.proofs.CaseSplits.{cases, neither, and_never}
use Rattle.lists.proofs.FilteredRange.{same_kept}
use Rattle.lists.proofs.Members.{Each}
use Rattle.lists.proofs.AgreeingTests.{one_more}
use Rattle.calls.specs.Table.{word, is_of, in_set, is_held, is_stray}
use Rattle.calls.specs.Calls.{Move, move, move_all}
use Rattle.calls.specs.TakeBack.{any_move, frames_named, twice, back, backward}
use Rattle.calls.proofs.PageWords.{page_word, free_word}
use Rattle.calls.proofs.TakingBackDone.{FitsOn, fits_on}
use Rattle.calls.proofs.Undoing.{move_off}
use Rattle.taking_back.specs.Triples.{unfit, outside, outsides}
use Rattle.taking_back.proofs.TripleWords.{named_count}
use Rattle.taking_back.proofs.Marks.{once_each}

module _ (n d c : ℕ) where
  module _ (t : List ℕ) (m : Move) (ok : FitsOn t n (length t) d c m) where
    abbrev v : ℕ
    v = m.source

    abbrev g : ℕ
    g = m.target

    abbrev after : List ℕ
    after = move t (back m)

    -- one of its frames is free and the other is not
    two_frames : g ≡ v → ⊥
    two_frames e = let bad : ◌≡◌ {A = ℕ} 0 1 = omega (arith, ok.held, ok.free, ap (word t) e) in omega arith

    elsewhere : (f : ℕ) → (f ≡ v → ⊥) → (f ≡ g → ⊥) → word after f ≡ word t f
    elsewhere f not-v not-g = move_off t (back m) f (not-g, not-v)

    -- the new frame is free after it
    vacated : word after g ≡ 0
    vacated = get_or-set_other (set t g 0) v g (word t g) 0 two_frames ∙ get_or-set_same t g 0 0 ok.new_below

    -- where 31 has nothing against a triple of other frames, it has nothing then
    unfit_still : (k : Move) → (k.source ≡ v → ⊥) → (k.source ≡ g → ⊥) → (k.target ≡ v → ⊥) → (k.target ≡ g → ⊥)
        → unfit after n d c k ≡ unfit t n d c k
    unfit_still k a b e f = rw (elsewhere k.source a b, elsewhere k.target e f, length-set (set t g 0) v (word t g), length-set t g 0) refl

    any_still : (ms : List Move) → any_of (eqb v) (frames_named ms) ≡ false → any_of (eqb g) (frames_named ms) ≡ false
        → any_move (unfit after n d c) ms ≡ any_move (unfit t n d c) ms
    unfolding any_move frames_named
    any_still [] e h = refl
    any_still (k ∷ ms) e h =
        let a = neither (eqb v k.source) _ e in
        let b = neither (eqb v k.target) _ a.1 in
        let o = neither (eqb g k.source) _ h in
        let q = neither (eqb g k.target) _ o.1 in
        ap₂ (λ (x y : Bool). x || y)
        (unfit_still k (λ z. eqb-false _ _ a.0 (sym z)) (λ z. eqb-false _ _ o.0 (sym z)) (λ z. eqb-false _ _ b.0 (sym z)) (λ z. eqb-false _ _ q.0 (sym z)))
        (any_still ms b.1 q.1)

    -- strays before and after it
    stray_elsewhere : (f : ℕ) → (f ≡ g → ⊥) → is_stray after n d c f ≡ is_stray t n d c f
    stray_elsewhere f not-g =
        cases (eqb f v)
        (λ e.
        let inner : in_set n c f ≡ true = rw (eqb-true f v e) ok.inside in
        rw inner (and_never (is_held after d f) ∙ sym (and_never (is_held t d f))))
        (λ e. ap (λ (w : ℕ). is_of d w && not (in_set n c f)) (elsewhere f (eqb-false f v e) not-g))

    stray_gone : is_stray after n d c g ≡ false
    stray_gone = rw (vacated, free_word d) refl

    stray_was : is_stray t n d c g ≡ not (in_set n c g)
    stray_was = rw (ok.held, page_word d m.page ok.page) refl

    one_back : length (keep (is_stray t n d c) (upto (length t))) ≡ outside n c g + length (keep (is_stray after n d c) (upto (length t)))
    one_back =
        cases (in_set n c g)
        (λ e.
        let same = ap length (same_kept (is_stray t n d c) (is_stray after n d c) (length t)
        (λ f l. cases (eqb f g) (λ q. rw (eqb-true f g q) (stray_was ∙ ap not e ∙ sym stray_gone)) (λ q. sym (stray_elsewhere f (eqb-false f g q))))) in
        rw e (omega (arith, same)))
        (λ e.
        let more = one_more (is_stray after n d c) (is_stray t n d c) g stray_elsewhere stray_gone (stray_was ∙ ap not e) (length t) 0 zero-le (omega (arith, ok.new_below)) in
        rw e (omega (arith, more)))

  -- all of them
  pub all_back : (ms : List Move) (t : List ℕ) → any_move (unfit t n d c) ms ≡ false → twice (frames_named ms) ≡ false
      → length (keep (is_stray t n d c) (upto (length t)))
      ≡ outsides n c ms + length (keep (is_stray (move_all t (backward ms)) n d c) (upto (length t)))
  unfolding any_move frames_named twice backward move_all outsides
  all_back [] t e h = omega arith
  all_back (m ∷ ms) t e h =
      let a = neither (unfit t n d c m) _ e in
      let o = neither (any_of (eqb m.source) (m.target ∷ frames_named ms)) _ h in
      let ov = neither (eqb m.source m.target) _ o.0 in
      let og = neither (any_of (eqb m.target) (frames_named ms)) _ o.1 in
      let ok = fits_on t n (length t) d c m a.0 in
      let next : List ℕ = move t (back m) in
      let long : length next ≡ length t = simp length-set refl in
      let rest = all_back ms next (any_still t m ok ms ov.1 og.0 ∙ a.1) og.1 in
      omega (arith, one_back t m ok, rw long at rest)

  -- the frames of such a list lie below F
  all_below : (t : List ℕ) (ms : List Move) → any_move (unfit t n d c) ms ≡ false → Each (λ (f : ℕ). f < length t) (frames_named ms)
  unfolding any_move frames_named
  all_below t [] e = tt
  all_below t (m ∷ ms) e =
      let a = neither (unfit t n d c m) _ e in
      let ok = fits_on t n (length t) d c m a.0 in
      (ok.old_below, (ok.new_below, all_below t ms a.1))

  pub few_moves : (t : List ℕ) (ms : List Move) → any_move (unfit t n d c) ms ≡ false → twice (frames_named ms) ≡ false → 2 * length ms ≤ length t
  few_moves t ms e h = omega (arith, named_count ms, once_each (length t) (frames_named ms) h (all_below t ms e))
