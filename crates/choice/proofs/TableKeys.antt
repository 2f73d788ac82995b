-- The keys of a table are words: a colour with a free frame has at most as many frames held as there are others, and where there is a second colour one
-- fewer.
use Rattle.std.proofs.Common.{◌≡◌, ℕ, suc, ◌+◌, ◌*◌, ◌%◌, ◌<◌, ◌≤◌, Bool, true, false, ◌&&◌, ◌||◌, eqb, leb, List, length, sym, refl, ap, ◌∙◌, mod-eq_of_lt, arith, eq-eqb, ne_eqb, eqb-true}
use mathlib.Core.Bool.{or-false, or-true, and-false}
use borrow.Author.Tests.{eqb-false, lt-leb}
use Rattle.limits.specs.Limits.{most_frames, last_page}
use Rattle.lists.specs.Range.{upto, keep}
use Rattle.lists.proofs.CaseSplits.{cases, below_or_not, and_both}
use Rattle.lists.proofs.Searches.{found}
use Rattle.lists.proofs.AgreeingTests.{kept_le, one_more}
use Rattle.colours.specs.Cache.{is_colour_count}
use Rattle.colours.proofs.Ranges.{count_range}
use Rattle.calls.specs.Table.{word, word_of, has_word, is_held}
use Rattle.calls.specs.FrameChoice.{of_colour, in_colour}
use Rattle.choice.specs.Keys.{full_key, lowest_in}

-- two numbers that do not pass
module _ (p : ℕ → Bool) (m f : ℕ) (fl : f < m) (out : p f ≡ false) where
  abbrev with_f : ℕ → Bool
  with_f x = p x || eqb x f

  same_but : (x : ℕ) → (x ≡ f → ⊥) → p x ≡ with_f x
  same_but x off = sym (rw (ne_eqb x f off) (or-false (p x)))

  one_out : length (keep with_f (upto m)) ≡ suc (length (keep p (upto m)))
  one_out = one_more p with_f f same_but out (rw (eq-eqb f f refl) (or-true (p f))) m 0 (omega arith) (omega (arith, fl))

  pub one_less_lem : length (keep p (upto m)) < m
  one_less_lem = omega (arith, one_out, kept_le with_f m 0)

  pub two_less : (g : ℕ) → g < m → (g ≡ f → ⊥) → p g ≡ false → length (keep p (upto m)) + 1 < m
  two_less g gl off e =
      let with_g : ℕ → Bool = λ x. with_f x || eqb x g in
      let more : length (keep with_g (upto m)) ≡ suc (length (keep with_f (upto m))) =
      one_more with_f with_g g (λ x other. sym (rw (ne_eqb x g other) (or-false (with_f x)))) (rw (e, ne_eqb g f off)) (rw (eq-eqb g g refl) (or-true (with_f g))) m 0 (omega arith) (omega (arith, gl)) in
      omega (arith, more, one_out, kept_le with_g m 0)

-- On a table: a colour with a free frame has at least one frame that is not held, and there is another of another colour where
-- there is one
module _ (n d : ℕ) (t : List ℕ) (ok : is_colour_count n ≡ true) (most : length t ≤ most_frames) (x : ℕ) (xl : x < n) (some : lowest_in t n x < length t) where
  abbrev m : ℕ
  m = length t

  abbrev held : ℕ → Bool
  held = of_colour n (is_held t d) x

  free_there : (has_word t 0 (lowest_in t n x) ≡ true) × (lowest_in t n x % n ≡ x)
  free_there =
      let f : ℕ = lowest_in t n x in
      let both = and_both (has_word t 0 f) (eqb (f % n) x) (found (of_colour n (has_word t 0) x) 0 m some).passes in
      (both.0, eqb-true (f % n) x both.1)

  not_held : held (lowest_in t n x) ≡ false
  not_held =
      let f : ℕ = lowest_in t n x in
      let zero_word = eqb-true (word t f) 0 free_there.0 in
      ap (λ (o : Bool). (o && leb (word t f) (word_of d last_page)) && eqb (f % n) x) (lt-leb (word_of d 0) (word t f) (omega (arith, zero_word)))

  other_colour : (g : ℕ) → g < n → (g ≡ x → ⊥) → held g ≡ false
  other_colour g l off = rw (mod-eq_of_lt l, ne_eqb g x off) (and-false (is_held t d g))

  pub keys_fit : 16 * in_colour n m (is_held t d) x + x < full_key
  unfolding in_colour
  keys_fit =
      let f : ℕ = lowest_in t n x in
      let one = one_less_lem held m f some not_held in
      let few = count_range n ok in
      let another : (g : ℕ) → g < n → g < m → (g ≡ x → ⊥) → length (keep held (upto m)) + 1 < m =
      λ g gl gm off. two_less held m f some not_held g gm (λ z. off (sym (mod-eq_of_lt gl) ∙ ap (λ (k : ℕ). k % n) z ∙ free_there.1)) (other_colour g gl off) in
      below_or_not m most_frames
      (λ l. omega (arith, one, xl, few))
      (λ l.
      below_or_not 1 n
      (λ h.
      cases (eqb x 0)
      (λ z. omega (arith, eqb-true x 0 z, one, most))
      (λ z. omega (arith, another 0 (omega (arith, h)) (omega (arith, l)) (λ q. eqb-false x 0 z (sym q)), most, xl, few)))
      (λ h. omega (arith, one, most, xl)))
