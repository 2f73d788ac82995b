-- The words of a domain: that of each of its pages is one of them and of no other domain's, and that of a free frame is none.
use Prim.Native.Nat.{ℕ, ◌%◌, ◌<◌, ◌≤◌}
use native.Mathlib.Nat.{mod-eq_of_lt}
use native.Mathlib.Omega.{arith}
use mathlib.Core.Bool.{true, false}
use mathlib.Core.Path.{◌≡◌, refl}
use lib.Dec.{eqb, leb}
use borrow.Author.Tests.{eqb-true, eqb-false, le-leb, lt-leb, leb-true}
use Rattle.limits.specs.Limits.{last_page}
use Rattle.lists.proofs.CaseSplits.{cases, and_both}
use Rattle.calls.specs.Table.{word_of, is_of}

-- in 16 bits it is itself
pub word_fits : (d p : ℕ) → d < 8 → p ≤ last_page → word_of d p % 65536 ≡ word_of d p
word_fits d p low small = mod-eq_of_lt (omega arith)

pub page_word : (d p : ℕ) → p ≤ last_page → is_of d (word_of d p) ≡ true
page_word d p small = rw (le-leb (word_of d 0) (word_of d p) (omega arith), le-leb (word_of d p) (word_of d last_page) (omega arith))

pub free_word : (d : ℕ) → is_of d 0 ≡ false
free_word d = rw (lt-leb (word_of d 0) 0 (omega arith)) refl

-- whose a page's word is
pub whose_word : (d e p : ℕ) → p ≤ last_page → is_of d (word_of e p) ≡ eqb e d
whose_word d e p small =
    cases (eqb e d)
    (λ o. rw (o, eqb-true e d o) (page_word d p small))
    (λ o.
    rw o
    (cases (is_of d (word_of e p))
    (λ h.
    let r = and_both (leb (word_of d 0) (word_of e p)) (leb (word_of e p) (word_of d last_page)) h in
    let low = leb-true (word_of d 0) (word_of e p) r.0 in
    let high = leb-true (word_of e p) (word_of d last_page) r.1 in
    absurd (eqb-false e d o (omega arith)))
    (λ h. h)))
