-- That a domain whose quota fits a set can recolour to it: a frame of the set that is not reserved is free or held by the domain, whatever others did.
-- With those that it holds outside the set they are no more than the free ones and all that it holds.
use Prim.Native.Nat.{ℕ, zero, suc, ◌+◌, ◌*◌, ◌<◌, ◌≤◌}
use native.Mathlib.Omega.{arith}
use mathlib.Core.Bool.{Bool, true, false, not, ◌&&◌, true≢false}
use mathlib.Core.List.{List}
use mathlib.Core.Path.{◌≡◌, refl, sym, ◌∙◌}
use lib.ListN.{length, get_or-eq_default}
use borrow.Author.Tests.{eq-eqb, eqb-false, not-true, lt-ltb, le-ltb}
use Rattle.lists.specs.Range.{from, upto, keep}
use Rattle.lists.proofs.CaseSplits.{cases, below_or_not, and_both}
use Rattle.lists.proofs.AgreeingTests.{no_fewer}
use Rattle.refusal.specs.Reply.{Answers, unless}
use Rattle.board.specs.declared.Board.{Board}
use Rattle.board.specs.Tests.{grant, quota, empty_or_outside, bad_quotas}
use Rattle.calls.specs.Table.{State, state_of, word, in_set, has_word, is_of, is_free, is_held, frames_with, frees, frames_held, strays}
use Rattle.calls.specs.FrameChoice.{choices}
use Rattle.calls.specs.Calls.{Moved, settle, recolour_tests, recolour}
use Rattle.calls.proofs.PageWords.{page_word}
use Rattle.calls.proofs.ChoiceLaws.{taken_count}
use Rattle.isolation.specs.DomainRule.{run}
use Rattle.isolation.specs.Quotas.{WithinQuota, open_in, RoomToRecolour}
use Rattle.isolation.proofs.AcceptedBoard.{Live, at, set_inside}
use Rattle.isolation.proofs.TestLists.{called_accepted}
use Rattle.isolation.proofs.Invariant.{PageWord, granted, Lawful, free, reserved, held, Inv, Good, good, known, held_own}
use Rattle.isolation.proofs.Rule.{start_good, history_good}
use Rattle.isolation.proofs.Quotas.{never_above_quota}

-- Those that pass a test are those that pass another too, and those that do not
parts : (p q : ℕ → Bool) (k i : ℕ)
    → length (keep p (from i k)) ≡ length (keep (λ x. p x && q x) (from i k)) + length (keep (λ x. p x && not (q x)) (from i k))
unfolding keep from
parts p q zero i = refl
parts p q (suc k) i =
    let rest = parts p q k (suc i) in
    cases (p i)
    (λ e. cases (q i) (λ u. rw (e, u) (omega (arith, rest))) (λ u. rw (e, u) (omega (arith, rest))))
    (λ e. rw e rest)

-- a page's word is its domain's
its_word : {d w : ℕ} → PageWord d w → is_of d w ≡ true
its_word {d} k = rw k.is (page_word d k.page k.small)

module _ {b : Board} {t₀ : List ℕ} {x : Live} (inv : Inv b t₀ x) {d : ℕ} (below : d < b.domains)
    (c : ℕ) (fine : empty_or_outside (grant b d) c ≡ false) where
  abbrev many : (ℕ → Bool) → ℕ
  many p = length (keep p (upto b.frames))

  abbrev is_open : ℕ → Bool
  is_open f = in_set b.colours c f && not (has_word t₀ 65535 f)

  -- a word in a frame of the grant that is neither reserved nor the domain's is the free one
  no_others : (f w : ℕ) → granted b d f ≡ true → (w ≡ 65535 → ⊥) → is_of d w ≡ false → Lawful b f w → w ≡ 0
  no_others f w own open_to not-its (free z) = z
  no_others f w own open_to not-its (reserved r) = absurd (open_to r)
  no_others f w own open_to not-its (held k) = absurd (true≢false (sym (its_word (held_own inv below own k)) ∙ not-its))

  -- of the frames that are not reserved, one that the domain does not hold is free,
  open_free : (f : ℕ) → (is_open f && not (is_held x.table d f)) ≡ true → is_free x.table b.colours c f ≡ true
  open_free f e =
      let r = and_both (is_open f) _ e in
      let o = and_both (in_set b.colours c f) _ r.0 in
      let own = set_inside b d c fine _ o.0 in
      let zero : word x.table f ≡ 0 =
      below_or_not f b.frames
      (λ l.
      no_others f (word x.table f) own (λ z. eqb-false _ _ (not-true _ o.1) ((inv.reserved f l).0 z)) (not-true _ r.1) (inv.lawful f l))
      (λ l. get_or-eq_default x.table 0 (omega (arith, (known inv).long))) in
      rw (eq-eqb (word x.table f) 0 zero) o.0

  -- and one that it holds is held inside the set
  open_inside : (f : ℕ) → (is_open f && is_held x.table d f) ≡ true → (is_held x.table d f && in_set b.colours c f) ≡ true
  open_inside f e = let r = and_both (is_open f) _ e in rw (r.1, (and_both (in_set b.colours c f) _ r.0).0) refl

  -- there is a free frame for each one that has to move, and what has to move is within the quota
  enough : quota (at b x).board d ≤ open_in (state_of b t₀) c → WithinQuota d (at b x)
      → (length (strays (at b x) d c) ≤ length (choices (at b x) d c)) × (length (strays (at b x) d c) ≤ quota (at b x).board d)
  unfolding frames_with frames_held strays frees choices
  enough room within =
      let m : ℕ = b.frames in
      let t : List ℕ = x.table in
      let inside : ℕ → Bool = λ f. is_held t d f && in_set b.colours c f in
      let mine = parts (is_held t d) (in_set b.colours c) m 0 in
      let all = parts is_open (is_held t d) m 0 in
      let inner : many (λ f. is_open f && is_held t d f) ≤ many inside = no_fewer _ inside open_inside m 0 in
      let rest : many (λ f. is_open f && not (is_held t d f)) ≤ many (is_free t b.colours c) = no_fewer _ _ open_free m 0 in
      let count = taken_count (many (is_free t b.colours c)) b.colours m (is_free t b.colours c) (is_held t d) in
      (omega (arith, mine, all, inner, rest, count, room, within), omega (arith, mine, within))

  -- 26 and 8 pass, as do 9, 12 and 13
  answers : bad_quotas b ≡ false → quota (at b x).board d ≤ open_in (state_of b t₀) c → WithinQuota d (at b x)
      → (lent : List ℕ) → 3 * quota (at b x).board d ≤ length lent
      → (recolour (at b x) d c lent).reply ≡ Answers (Moved (length (strays (at b x) d c)))
  unfolding recolour settle unless
  answers awake room within lent long =
      let some = enough room within in
      let left = length (strays (at b x) d c) in
      rw (
        called_accepted (at b x) d (recolour_tests (at b x) d c (length lent)) _ inv.accepted,
        inv.quotas ∙ awake,
        lt-ltb d b.domains below,
        fine,
        le-ltb (length (choices (at b x) d c)) left some.0,
        le-ltb (length lent) (3 * left) (omega (arith, some.1)),
      ) refl

pub room_to_recolour : RoomToRecolour
room_to_recolour start ok empty awake d c below fine h =
    go (run start h) (history_good start (start_good start ok empty) h) (never_above_quota start ok empty d below h)
  where
    go : (s : State) → Good start.board start.table s → WithinQuota d s → quota s.board d ≤ open_in start c
        → (lent : List ℕ) → 3 * quota s.board d ≤ length lent
        → (recolour s d c lent).reply ≡ Answers (Moved (length (strays s d c)))
    go s (good inv) within room = answers inv below c fine awake room within
