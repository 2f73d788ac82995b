-- Marks in place of pairs: the triples of a list are wrong by their marks exactly where one of them is wrong by itself, a frame is named twice or one that is
-- named was marked before. And no more frames can be named once than there are.
use Prim.Native.Nat.{ℕ, ◌<◌, ◌≤◌, zero-le}
use native.Mathlib.Nat.{le_trans}
use native.Mathlib.Omega.{arith}
use mathlib.Core.Bool.{Bool, true, false, ◌||◌, true≢false}
use mathlib.Core.List.{List, [], ◌∷◌}
use mathlib.Core.Path.{◌≡◌, refl, sym, ap, ◌∙◌}
use lib.Dec.{eqb}
use lib.ListN.{length, get_or, set, length-set}
use lib.Seq.{get_or-set_same, get_or-set_other}
use borrow.Author.Tests.{eqb-true, eqb-false, eq-eqb}
use Rattle.limits.specs.Limits.{most_frames}
use Rattle.lists.specs.Range.{upto, keep, any_of}
use Rattle.lists.proofs.CaseSplits.{cases, neither, and_never}
use Rattle.lists.proofs.Members.{Each}
use Rattle.lists.proofs.FilteredRange.{each_map}
use Rattle.lists.proofs.AgreeingTests.{kept_le, one_more}
use Rattle.calls.specs.FrameChoice.{without}
use Rattle.calls.specs.Calls.{Move}
use Rattle.calls.specs.TakeBack.{any_move, frames_named, twice}
use Rattle.calls.proofs.ChoiceLaws.{still_free}
use Rattle.calls.proofs.TakingBackDone.{fits_on}
use Rattle.taking_back.specs.Triples.{unfit, is_marked, wrong_from}

-- two tests of which either fails where the other does
both_fail : (a b : Bool) → (a ≡ false → b ≡ false) → (b ≡ false → a ≡ false) → a ≡ b
both_fail true b f g = cases b (λ e. sym e) (λ e. absurd (true≢false (g e)))
both_fail false b f g = sym (f refl)

none_of : (a b : Bool) → a ≡ false → b ≡ false → (a || b) ≡ false
none_of a b e f = rw (e, f) refl

-- a list of which no member passes
any_fewer : (p q : ℕ → Bool) → ((x : ℕ) → p x ≡ false → q x ≡ false) → (xs : List ℕ) → any_of p xs ≡ false → any_of q xs ≡ false
any_fewer p q f [] e = refl
any_fewer p q f (x ∷ xs) e =
    let r = neither (p x) (any_of p xs) e in
    none_of (q x) (any_of q xs) (f x r.0) (any_fewer p q f xs r.1)

any_three : (p q r s : ℕ → Bool) → ((x : ℕ) → p x ≡ false → q x ≡ false → r x ≡ false → s x ≡ false)
    → (xs : List ℕ) → any_of p xs ≡ false → any_of q xs ≡ false → any_of r xs ≡ false → any_of s xs ≡ false
any_three p q r s f [] e g h = refl
any_three p q r s f (x ∷ xs) e g h =
    let i = neither (p x) (any_of p xs) e in
    let j = neither (q x) (any_of q xs) g in
    let k = neither (r x) (any_of r xs) h in
    none_of (s x) (any_of s xs) (f x i.0 j.0 k.0) (any_three p q r s f xs i.1 j.1 k.1)

module _ (marks : List ℕ) (v : ℕ) (l : v < length marks) where
  -- a mark more
  marked_here : is_marked (set marks v 1) v ≡ true
  marked_here = eq-eqb _ 1 (get_or-set_same marks v 1 0 l)

  marked_there : (x : ℕ) → (x ≡ v → ⊥) → is_marked (set marks v 1) x ≡ is_marked marks x
  marked_there x other = ap (λ (w : ℕ). eqb w 1) (get_or-set_other marks v x 1 0 other)

  -- what is not marked then is another frame, and was not marked
  unmarked : (x : ℕ) → is_marked (set marks v 1) x ≡ false → (eqb v x ≡ false) × (is_marked marks x ≡ false)
  unmarked x e =
      cases (eqb v x)
      (λ q. absurd (true≢false (sym marked_here ∙ rw (← (eqb-true v x q)) at e)))
      (λ q. (q, sym (marked_there x (λ z. eqb-false v x q (sym z))) ∙ e))

  still_unmarked : (x : ℕ) → eqb v x ≡ false → is_marked marks x ≡ false → is_marked (set marks v 1) x ≡ false
  still_unmarked x q e = marked_there x (λ z. eqb-false v x q (sym z)) ∙ e

module _ (t : List ℕ) (n d c : ℕ) (most : length t ≤ most_frames) where
  abbrev wrong : List ℕ → List Move → Bool
  wrong marks ms = any_move (unfit t n d c) ms || twice (frames_named ms) || any_of (is_marked marks) (frames_named ms)

  -- one triple more, with its old frame v and its new frame g
  module _ (bad : Bool) (v g : ℕ) (fs : List ℕ) (marks : List ℕ) (old : bad ≡ false → v < length marks) (new : bad ≡ false → g < length marks) where
    abbrev once : List ℕ
    once = set marks v 1

    abbrev both : List ℕ
    both = set once g 1

    there : (later : Bool)
        → (bad || is_marked marks v || is_marked once g || (later || twice fs || any_of (is_marked both) fs)) ≡ false
        → (bad || later || (any_of (eqb v) (g ∷ fs) || (any_of (eqb g) fs || twice fs)) || any_of (is_marked marks) (v ∷ g ∷ fs)) ≡ false
    there later e =
        let a = neither _ (later || twice fs || any_of (is_marked both) fs) e in
        let b = neither _ (is_marked once g) a.0 in
        let h = neither bad (is_marked marks v) b.0 in
        let r = neither (later || twice fs) (any_of (is_marked both) fs) a.1 in
        let q = neither later (twice fs) r.0 in
        let lv = old h.0 in
        let lg : g < length once = rw (length-set marks v 1) (new h.0) in
        let was = unmarked marks v lv g b.1 in
        let on_g = any_fewer (is_marked both) (eqb g) (λ x u. (unmarked once g lg x u).0) fs r.1 in
        let on_v = any_fewer (is_marked both) (eqb v) (λ x u. (unmarked marks v lv x (unmarked once g lg x u).1).0) fs r.1 in
        let on_marks = any_fewer (is_marked both) (is_marked marks) (λ x u. (unmarked marks v lv x (unmarked once g lg x u).1).1) fs r.1 in
        rw (h.0, q.0, was.0, on_v, on_g, q.1, h.1, was.1, on_marks) refl

    back : (later : Bool)
        → (bad || later || (any_of (eqb v) (g ∷ fs) || (any_of (eqb g) fs || twice fs)) || any_of (is_marked marks) (v ∷ g ∷ fs)) ≡ false
        → (bad || is_marked marks v || is_marked once g || (later || twice fs || any_of (is_marked both) fs)) ≡ false
    back later e =
        let a = neither _ (any_of (is_marked marks) (v ∷ g ∷ fs)) e in
        let b = neither _ (any_of (eqb v) (g ∷ fs) || (any_of (eqb g) fs || twice fs)) a.0 in
        let h = neither bad later b.0 in
        let mv = neither (is_marked marks v) _ a.1 in
        let mg = neither (is_marked marks g) _ mv.1 in
        let o = neither (any_of (eqb v) (g ∷ fs)) _ b.1 in
        let ov = neither (eqb v g) (any_of (eqb v) fs) o.0 in
        let og = neither (any_of (eqb g) fs) (twice fs) o.1 in
        let lv = old h.0 in
        let lg : g < length once = rw (length-set marks v 1) (new h.0) in
        let on_g = still_unmarked marks v lv g ov.0 mg.0 in
        let on_both =
        any_three (eqb v) (eqb g) (is_marked marks) (is_marked both) (λ x p q r. still_unmarked once g lg x q (still_unmarked marks v lv x p r)) fs ov.1 og.0 mg.1 in
        rw (h.0, mv.0, on_g, h.1, og.1, on_both) refl

  pub by_marks : (ms : List Move) (marks : List ℕ) → most_frames ≡ length marks → wrong_from t n d c marks ms ≡ wrong marks ms
  unfolding wrong_from any_move frames_named twice
  by_marks [] marks long = refl
  by_marks (m ∷ ms) marks long =
      let bad = unfit t n d c m in
      let old : bad ≡ false → m.source < length marks = λ e. omega (arith, (fits_on t n (length t) d c m e).old_below) in
      let new : bad ≡ false → m.target < length marks = λ e. omega (arith, (fits_on t n (length t) d c m e).new_below) in
      let rest = by_marks ms (set (set marks m.source 1) m.target 1) (simp length-set long) in
      rw rest
      (both_fail _ _ (there bad m.source m.target (frames_named ms) marks old new (any_move (unfit t n d c) ms))
      (back bad m.source m.target (frames_named ms) marks old new (any_move (unfit t n d c) ms)))

-- nothing is marked at first
pub no_marks : (marks fs : List ℕ) → ((f : ℕ) → get_or marks f 0 ≡ 0) → any_of (is_marked marks) fs ≡ false
no_marks marks [] z = refl
no_marks marks (f ∷ fs) z = rw (z f, no_marks marks fs z) refl

-- frames that are named once are no more than those that there are
few_named : (p : ℕ → Bool) (n : ℕ) (fs : List ℕ) → twice fs ≡ false → Each (λ (f : ℕ). (f < n) × (p f ≡ true)) fs → length fs ≤ length (keep p (upto n))
unfolding twice
few_named p n [] e all = zero-le
few_named p n (f ∷ fs) e all =
    let o = neither (any_of (eqb f) fs) (twice fs) e in
    let gone : without p f f ≡ false = rw (eq-eqb f f refl) (and_never (p f)) in
    let less = one_more (without p f) p f (λ x other. sym (still_free p f x other)) gone all.0.1 n 0 zero-le (omega arith) in
    omega (arith, less, few_named (without p f) n fs o.1 (others fs o.0 all.1))
  where
    others : (gs : List ℕ) → any_of (eqb f) gs ≡ false → Each (λ (g : ℕ). (g < n) × (p g ≡ true)) gs
        → Each (λ (g : ℕ). (g < n) × (without p f g ≡ true)) gs
    others [] none each = tt
    others (g ∷ gs) none each =
        let r = neither (eqb f g) (any_of (eqb f) gs) none in
        ((each.0.0, sym (still_free p f g (λ z. eqb-false f g r.0 (sym z))) ∙ each.0.1), others gs r.1 each.1)

pub once_each : (n : ℕ) (fs : List ℕ) → twice fs ≡ false → Each (λ (f : ℕ). f < n) fs → length fs ≤ n
once_each n fs e all =
    le_trans (few_named (λ f. true) n fs e (each_map (λ (f : ℕ). f < n) (λ (f : ℕ). (f < n) × (true ≡ true)) (λ f l. (l, refl)) fs all)) (kept_le (λ f. true) n 0)
