-- The searches of the calls: what they find a domain may write, and two tables with the same words in the domain's frames give the same.
-- It knows no call.
use Prim.Native.Nat.{ℕ, ◌-◌, ◌%◌, ◌<◌, ◌≤◌}
use native.Mathlib.Omega.{arith}
use mathlib.Core.Bool.{Bool, true, false, true≢false}
use mathlib.Core.List.{List, []}
use mathlib.Core.Path.{◌≡◌, refl, sym, ap, ◌∙◌}
use lib.Dec.{leb}
use lib.ListN.{length}
use borrow.Author.Tests.{eqb-true, eqb-false, leb-true}
use Rattle.lists.proofs.CaseSplits.{cases, and_both, and_never}
use Rattle.lists.proofs.Members.{Each}
use Rattle.lists.proofs.FilteredRange.{each_map, kept, kept_none, same_kept}
use Rattle.board.specs.declared.Board.{Board}
use Rattle.calls.specs.Table.{word, word_of, is_of, in_set, has_word, is_free, is_held, is_stray, frames_with, frames_held, mapped_to, strays}
use Rattle.calls.specs.FrameChoice.{choices}
use Rattle.calls.proofs.ChoiceLaws.{Chosen, chosen, choice_local}
use Rattle.isolation.proofs.AcceptedBoard.{Live, at, Inside}
use Rattle.isolation.proofs.Invariant.{PageWord, granted, Lawful, free, reserved, held, Inv, Mine, known, not_reserved}
use Rattle.isolation.proofs.DomainView.{SameWords}

-- a word that is one of e's, by its page
pub word_page : (e w : ℕ) → is_of e w ≡ true → PageWord e w
word_page e w h =
    let r = and_both (leb (word_of e 0) w) (leb w (word_of e 4095)) h in
    let low = leb-true (word_of e 0) w r.0 in
    let high = leb-true w (word_of e 4095) r.1 in
    record { page = w - word_of e 0; small = omega arith; is = omega arith }

-- a test of a frame, on a table, that goes by its word and that only a word of e passes
pub record OwnTest (e : ℕ) (test : List ℕ → ℕ → Bool) : Type 0 where
  pub by_word : (t u : List ℕ) (f : ℕ) → word t f ≡ word u f → test t f ≡ test u f
  pub only : (t : List ℕ) (f : ℕ) → test t f ≡ true → PageWord e (word t f)

has_word_lem : (e p : ℕ) → p ≤ 4095 → OwnTest e (λ t. has_word t (word_of e p))
has_word_lem e p small =
    record {
      by_word = λ t u f q. rw q;
      only = λ t f h. record { page = p; small = small; is = eqb-true (word t f) (word_of e p) h };
    }

is_stray_lem : (n e c : ℕ) → OwnTest e (λ t. is_stray t n e c)
is_stray_lem n e c =
    record { by_word = λ t u f q. rw q; only = λ t f h. word_page e (word t f) (and_both (is_of e (word t f)) _ h).0 }

is_held_lem : (e : ℕ) → OwnTest e (λ t. is_held t e)
is_held_lem e = record { by_word = λ t u f q. rw q; only = λ t f h. word_page e (word t f) h }

module _ {b : Board} {t₀ : List ℕ} {x : Live} (inv : Inv b t₀ x) {e : ℕ} (below : e < b.domains) where
  -- a frame with a word of e
  pub own_frame : (f : ℕ) → f < b.frames → PageWord e (word x.table f) → Mine b t₀ e f
  own_frame f h k =
      record { below = h; own = in_grant (inv.lawful f h); open_to = λ z. not_reserved inv below k ((inv.reserved f h).1 z) }
    where
      in_grant : Lawful b f (word x.table f) → granted b e f ≡ true
      in_grant (free z) = absurd (omega arith)
      in_grant (reserved r) = absurd (not_reserved inv below k r)
      in_grant (held o) = let same : o.domain ≡ e = omega arith in rw (← same) o.own

  -- a free frame with a granted colour
  pub free_frame : (f : ℕ) → f < b.frames → word x.table f ≡ 0 → granted b e f ≡ true → Mine b t₀ e f
  free_frame f h q g = record { below = h; own = g; open_to = λ z. omega (arith, (inv.reserved f h).1 z) }

  pub choices_mine : (c : ℕ) → Inside b e c → Each (Mine b t₀ e) (choices (at b x) e c)
  choices_mine c inside =
      each_map (Chosen (at b x) c) (Mine b t₀ e) (λ f k. free_frame f k.below k.free (inside (f % b.colours) k.inside))
      (choices (at b x) e c) (chosen (at b x) e c (known inv).coloured)

  module _ (test : List ℕ → ℕ → Bool) (own : OwnTest e test) where
    found_mine : Each (Mine b t₀ e) (frames_with (at b x) (test x.table))
    unfolding frames_with
    found_mine =
        each_map (λ (f : ℕ). (f < b.frames) × (test x.table f ≡ true)) (Mine b t₀ e)
        (λ f r. own_frame f r.0 (own.only x.table f r.1))
        (frames_with (at b x) (test x.table)) (kept (test x.table) b.frames)

    -- outside its grant e has no word
    none_outside : (f : ℕ) → f < b.frames → granted b e f ≡ false → test x.table f ≡ false
    none_outside f h g =
        cases (test x.table f)
        (λ k. absurd (true≢false (sym (own_frame f h (own.only x.table f k)).own ∙ g)))
        (λ k. k)

  pub mapped_mine : (p : ℕ) → p ≤ 4095 → Each (Mine b t₀ e) (mapped_to (at b x) e p)
  unfolding mapped_to
  mapped_mine p small = found_mine _ (has_word_lem e p small)

  pub strays_mine : (c : ℕ) → Each (Mine b t₀ e) (strays (at b x) e c)
  unfolding strays
  strays_mine c = found_mine _ (is_stray_lem b.colours e c)

-- the frames mapped to a page have its word, and where there are none no frame has
module _ (b : Board) (x : Live) (e p : ℕ) where
  pub mapped : Each (λ (f : ℕ). (f < b.frames) × (has_word x.table (word_of e p) f ≡ true)) (mapped_to (at b x) e p)
  unfolding mapped_to frames_with
  mapped = kept (has_word x.table (word_of e p)) b.frames

  pub unmapped : mapped_to (at b x) e p ≡ [] → (f : ℕ) → f < b.frames → word x.table f ≡ word_of e p → ⊥
  unfolding mapped_to frames_with
  unmapped q f h = eqb-false _ _ (kept_none (has_word x.table (word_of e p)) b.frames q f h)

module _ {b : Board} {t₀ : List ℕ} {x y : Live} (inv : Inv b t₀ x) (inv' : Inv b t₀ y) {d : ℕ} (below : d < b.domains)
    (same : SameWords b d x.table y.table) where
  same_test : (test : List ℕ → ℕ → Bool) → OwnTest d test → (f : ℕ) → f < b.frames → test x.table f ≡ test y.table f
  same_test test own f h =
      cases (granted b d f)
      (λ g. own.by_word x.table y.table f (same f h g))
      (λ g. none_outside inv below test own f h g ∙ sym (none_outside inv' below test own f h g))

  same_found : (test : List ℕ → ℕ → Bool) → OwnTest d test → frames_with (at b x) (test x.table) ≡ frames_with (at b y) (test y.table)
  unfolding frames_with
  same_found test own = same_kept (test x.table) (test y.table) b.frames (same_test test own)

  -- a frame has the domain's word for a page, or is free with a colour in a set inside the grant
  pub same_word_test : (p f : ℕ) → p ≤ 4095 → f < b.frames → has_word x.table (word_of d p) f ≡ has_word y.table (word_of d p) f
  same_word_test p f small h = same_test _ (has_word_lem d p small) f h

  pub same_free_test : (c f : ℕ) → Inside b d c → f < b.frames → is_free x.table b.colours c f ≡ is_free y.table b.colours c f
  same_free_test c f inside h =
      cases (in_set b.colours c f)
      (λ k. rw (same f h (inside (f % b.colours) k)))
      (λ k. rw (k, and_never (has_word x.table 0 f), and_never (has_word y.table 0 f)))

  pub same_mapped : (p : ℕ) → p ≤ 4095 → mapped_to (at b x) d p ≡ mapped_to (at b y) d p
  unfolding mapped_to
  same_mapped p small = same_found _ (has_word_lem d p small)

  pub same_strays : (c : ℕ) → strays (at b x) d c ≡ strays (at b y) d c
  unfolding strays
  same_strays c = same_found _ (is_stray_lem b.colours d c)

  pub same_held : frames_held (at b x) d ≡ frames_held (at b y) d
  unfolding frames_held
  same_held = ap length (same_found _ (is_held_lem d))

  pub same_choices : (c : ℕ) → Inside b d c → choices (at b x) d c ≡ choices (at b y) d c
  same_choices c inside = choice_local (at b x) (at b y) d c refl refl (λ f h k. same f h (inside (f % b.colours) k))
