-- The word for a page: it belongs to the domain exactly where the page is one, so that it is then the domain's word for it.
use Prim.Native.Nat.{ℕ, ◌+◌, ◌*◌, ◌%◌, ◌<◌}
use native.Mathlib.Omega.{arith}
use mathlib.Core.Bool.{Bool, true, false, not, ◌||◌}
use mathlib.Core.List.{List}
use mathlib.Core.Path.{◌≡◌, refl}
use lib.Dec.{eqb, ltb, leb}
use lib.ListN.{length}
use borrow.Author.Tests.{lt-ltb, le-ltb}
use Rattle.limits.specs.Limits.{pages, last_page}
use Rattle.lists.proofs.CaseSplits.{below_or_not}
use Rattle.table_words.specs.Words.{above, among}
use Rattle.calls.specs.Table.{word, word_of, is_free}
use Rattle.taking_back.specs.Triples.{unfit, move_of}

module _ (d p : ℕ) (low : d < 8) (fits : p < 65536) where
  abbrev first : ℕ
  first = word_of d 0

  abbrev pub word_for : ℕ
  word_for = (1 + pages * d + p) % 65536

  far : above first word_for ≡ p
  far = omega arith

  pub own_page : (x : ℕ) → (not (among first pages word_for) || not (eqb x word_for)) ≡ (ltb last_page p || not (eqb x (word_of d p)))
  unfolding among
  own_page x =
      let small : word_for < 65536 = omega arith in
      below_or_not last_page p
      (λ h. rw (lt-ltb word_for 65536 small, le-ltb (above first word_for) pages (omega (arith, far)), lt-ltb last_page p h) refl)
      (λ h.
      let is : word_for ≡ word_of d p = omega arith in
      rw (lt-ltb word_for 65536 small, lt-ltb (above first word_for) pages (omega (arith, far)), le-ltb last_page p h, is) refl)

-- what 31 has against a triple, as the code tests it: first its frames, then its word, then the old frame
reordered : (a b c d e : Bool) → ((((a || b) || c) || d) || e) ≡ ((b || c) || ((a || d) || e))
reordered true true c d e = refl
reordered true false true d e = refl
reordered true false false d e = refl
reordered false true c d e = refl
reordered false false true d e = refl
reordered false false false d e = refl

pub unfit_by : (t : List ℕ) (n d c p old new : ℕ)
    → unfit t n d c (move_of p old new)
    ≡ ((leb (length t) old || leb (length t) new) || ((ltb last_page p || not (eqb (word t new) (word_of d p))) || not (is_free t n c old)))
unfit_by t n d c p old new = reordered (ltb last_page p) (leb (length t) old) (leb (length t) new) (not (eqb (word t new) (word_of d p))) (not (is_free t n c old))
