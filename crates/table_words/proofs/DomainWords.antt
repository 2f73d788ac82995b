-- The words of a domain: of those from its first word on, as many as it has pages are its own, and no word is among none. So the one test tells whether a
-- word belongs to a domain, and whether it is that of a stray.
use Rattle.std.proofs.Common.{◌≡◌, ℕ, ◌+◌, ◌<◌, ◌≤◌, false, ltb, leb, zero-le, arith, le-ltb, lt-ltb, le-leb}
use mathlib.Core.Bool.{and-false}
use borrow.Author.Tests.{lt-leb}
use Rattle.limits.specs.Limits.{pages, last_page, last_first}
use Rattle.lists.proofs.CaseSplits.{below_or_not, and_never}
use Rattle.tally.specs.Tally.{is_own}
use Rattle.table_words.specs.Words.{above, among}

module _ (first x : ℕ) where
  pub among_none : among first 0 x ≡ false
  unfolding among
  among_none = rw (le-ltb (above first x) 0 zero-le) (and-false (ltb x 65536))

  module _ (high : first ≤ last_first) where
    -- a word below the first
    below : x < first → among first pages x ≡ is_own first x
    unfolding among
    below l = rw (lt-ltb x 65536 (omega arith), le-ltb (above first x) pages (omega arith), lt-leb first x l)

    from_first : first ≤ x → x < 65536 → among first pages x ≡ is_own first x
    unfolding among
    from_first h l =
        below_or_not x (first + pages)
        (λ k. rw (lt-ltb x 65536 l, lt-ltb (above first x) pages (omega arith), le-leb first x h, le-leb x (first + last_page) (omega arith)))
        (λ k. rw (lt-ltb x 65536 l, le-ltb (above first x) pages (omega arith), lt-leb x (first + last_page) (omega arith), and_never (leb first x)))

    pub among_own : among first pages x ≡ is_own first x
    unfolding among
    among_own =
        below_or_not x 65536
        (λ l. below_or_not x first below (λ h. from_first h l))
        (λ h. rw (le-ltb x 65536 h, lt-leb x (first + last_page) (omega arith), and_never (leb first x)))
