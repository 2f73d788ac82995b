-- The choice of free frames, by its laws: each is free and has a colour in the set; the first has the colour in which the domain holds the fewest, the
-- lowest on a tie, and is the lowest frame of it; and the choice depends on the frames with a colour in the set alone. No pointer or other state that
-- domains have in common can meet the last.
use Prim.Native.Nat.{ℕ, zero, suc, ◌%◌, ◌<◌, ◌≤◌, zero-le}
use native.Mathlib.Nat.{le_refl, lt_irrefl, mod-lt}
use native.Mathlib.Omega.{arith}
use mathlib.Core.Bool.{Bool, true, false, not, and-true, and-false, true≢false}
use mathlib.Core.List.{List, [], ◌∷◌}
use mathlib.Core.Path.{◌≡◌, refl, sym, ap, ◌∙◌}
use lib.Dec.{eqb, ltb}
use lib.ListN.{length}
use borrow.Author.Tests.{eq-eqb, ne_eqb, eqb-true, lt-ltb, ltb-true}
use Rattle.lists.specs.Range.{upto, keep, is_empty, head_or, lowest}
use Rattle.lists.proofs.CaseSplits.{cases, below_or_not, and_both}
use Rattle.lists.proofs.Members.{Each, head_has}
use Rattle.lists.proofs.FilteredRange.{each_map, kept_only, same_kept}
use Rattle.lists.proofs.Searches.{found, kept_missed}
use Rattle.lists.proofs.AgreeingTests.{same_lowest, some_kept, some_lowest, one_fewer}
use Rattle.lists.proofs.FewestNumber.{fewest_found, fewest_there, fewest_before, same_fewest}
use Rattle.colours.specs.Sets.{has}
use Rattle.calls.specs.Table.{State, word, in_set, has_word, is_free, is_held, frames_with, frees}
use Rattle.calls.specs.FrameChoice.{of_colour, in_colour, next_colour, next_frame, without, taken, choices}
use Rattle.calls.proofs.ColourCounts.{Counts, in_own_colour, lowest_counts, same_count}

-- a number is itself
self : (x : ℕ) → eqb x x ≡ true
self x = eq-eqb x x refl

-- a frame that is free for a set
free_parts : (t : List ℕ) (n c f : ℕ) → is_free t n c f ≡ true → (word t f ≡ 0) × (in_set n c f ≡ true)
free_parts t n c f e = let o = and_both (eqb (word t f) 0) (in_set n c f) e in (eqb-true (word t f) 0 o.0, o.1)

-- The next frame, where one is free: it is free, it has the next colour, and in no other colour with a free frame the domain holds fewer, nor as few in
-- a lower one; and no lower frame of its colour is free
module _ (n m : ℕ) (coloured : 0 < n) (free held : ℕ → Bool) where
  abbrev has_free : ℕ → Bool
  has_free x = ltb 0 (in_colour n m free x)

  pub record Next : Type 0 where
    pub below : next_frame n m free held < m
    pub is_free_lem : free (next_frame n m free held) ≡ true
    pub colour : next_frame n m free held % n ≡ next_colour n m free held
    pub least : (g : ℕ) → g < m → free g ≡ true → in_colour n m held (next_colour n m free held) ≤ in_colour n m held (g % n)
    pub lowest_colour :
        (g : ℕ) → g < m → free g ≡ true → g % n < next_colour n m free held → in_colour n m held (next_colour n m free held) < in_colour n m held (g % n)
    pub lowest_frame : (g : ℕ) → free g ≡ true → g % n ≡ next_colour n m free held → next_frame n m free held ≤ g

  pub next : (g : ℕ) → g < m → free g ≡ true → Next
  unfolding next_frame next_colour in_colour
  next g l e =
      let with_free : (f : ℕ) → f < m → free f ≡ true → has_free (f % n) ≡ true = λ f h o. lt-ltb 0 (in_colour n m free (f % n)) (in_own_colour n m free f h o) in
      let x : ℕ = next_colour n m free held in
      let there : x < n = fewest_there has_free _ n (g % n) (mod-lt g coloured) (with_free g l e) in
      let r = fewest_found has_free _ n there in
      let low = lowest_counts n m free x (ltb-true 0 (in_colour n m free x) r.passes) in
      let below : next_frame n m free held < m = some_lowest _ m (some_kept _ m _ low.below (simp (low.passes, low.colour, self))) in
      let hit = found _ 0 m below in
      let both = and_both _ _ hit.passes in
      record {
        below = below;
        is_free_lem = both.0;
        colour = eqb-true _ _ both.1;
        least = λ f h u. omega (arith, r.least (f % n) (mod-lt f coloured) (with_free f h u));
        lowest_colour = λ f h u k. omega (arith, fewest_before has_free _ n there (f % n) k (with_free f h u));
        lowest_frame = λ g u k.
            below_or_not g (next_frame n m free held)
            (λ h. absurd (true≢false (sym (simp (u, k, self)) ∙ hit.before g zero-le h)))
            (λ h. h);
      }

-- what is still free once a frame was taken was free before, and all but that frame is
taken_free : (free : ℕ → Bool) (f g : ℕ) → without free f g ≡ true → free g ≡ true
taken_free free f g e = (and_both (free g) (not (eqb g f)) e).0

pub still_free : (free : ℕ → Bool) (f g : ℕ) → (g ≡ f → ⊥) → free g ≡ without free f g
still_free free f g other = rw (ne_eqb g f other) (sym (and-true (free g)))

-- as many frames as are free can be taken, and each is free
pub each_free : (n m : ℕ) → 0 < n → (all : ℕ → Bool) (k : ℕ) (free held : ℕ → Bool) → ((f : ℕ) → free f ≡ true → all f ≡ true)
    → k ≤ length (keep free (upto m)) → Each (λ (f : ℕ). (f < m) × (all f ≡ true)) (taken k n m free held)
unfolding taken
each_free n m coloured all zero free held still l = tt
each_free n m coloured all (suc k) free held still l =
    let low = some_lowest free m (omega arith) in
    let r = next n m coloured free held (lowest free m) low (found free 0 m low).passes in
    let f : ℕ = next_frame n m free held in (
      (r.below, still f r.is_free_lem),
      each_free n m coloured all k (without free f) _ (λ g e. still g (taken_free free f g e)) (omega (arith, one_fewer free (without free f) f (still_free free f) m 0)),
    )

pub taken_count : (k n m : ℕ) (free held : ℕ → Bool) → length (taken k n m free held) ≡ k
unfolding taken
taken_count zero n m free held = refl
taken_count (suc k) n m free held = ap suc (taken_count k n m _ _)

-- a list with members is not empty
pub some_member : (xs : List ℕ) → 0 < length xs → is_empty xs ≡ false
some_member [] h = absurd (lt_irrefl 0 h)
some_member (x ∷ xs) h = refl

pub record Chosen (s : State) (c f : ℕ) : Type 0 where
  pub below : f < s.board.frames
  pub free : word s.table f ≡ 0
  pub inside : in_set s.board.colours c f ≡ true

pub chosen : (s : State) (d c : ℕ) → 0 < s.board.colours → Each (Chosen s c) (choices s d c)
unfolding choices frees frames_with
chosen s d c coloured =
    let free : ℕ → Bool = is_free s.table s.board.colours c in
    each_map (λ (f : ℕ). (f < s.board.frames) × (free f ≡ true)) (Chosen s c)
    (λ f r. let o = free_parts s.table s.board.colours c f r.1 in record { below = r.0; free = o.0; inside = o.1 })
    (choices s d c) (each_free s.board.colours s.board.frames coloured free (length (frees s c)) _ _ (λ f e. e) (le_refl _))

-- where one frame alone is free in the set, it is the choice
pub only_choice : (s : State) (d c f : ℕ) → 0 < s.board.colours → frees s c ≡ f ∷ [] → (is_empty (choices s d c) ≡ false) × (head_or 0 (choices s d c) ≡ f)
unfolding choices frees frames_with
only_choice s d c f coloured only =
    let n : ℕ = s.board.colours in
    let m : ℕ = s.board.frames in
    let free : ℕ → Bool = is_free s.table n c in
    let count = taken_count (length (frees s c)) n m free (is_held s.table d) in
    let some : is_empty (choices s d c) ≡ false = some_member (choices s d c) (omega (arith, count, ap length only)) in
    let k = head_has (Chosen s c) (choices s d c) (chosen s d c coloured) some in
    (some, kept_only free m f (head_or 0 (choices s d c)) only k.below (rw (eq-eqb _ _ k.free, k.inside) refl))

-- The first of them. Of the colours of the set with a free frame, the domain holds in none fewer than in its colour, and in each lower one more; and of
-- its colour it is the lowest free frame
pub record First (s : State) (d c f : ℕ) : Type 0 where
  pub choice : Chosen s c f
  pub least :
      let n = s.board.colours in
      let m = s.board.frames in
      (x : ℕ) → has c x ≡ true → 0 < in_colour n m (has_word s.table 0) x → in_colour n m (is_held s.table d) (f % n) ≤ in_colour n m (is_held s.table d) x
  pub lowest_colour :
      let n = s.board.colours in
      let m = s.board.frames in
      (x : ℕ) → has c x ≡ true → 0 < in_colour n m (has_word s.table 0) x → x < f % n
      → in_colour n m (is_held s.table d) (f % n) < in_colour n m (is_held s.table d) x
  pub lowest_frame : (g : ℕ) → word s.table g ≡ 0 → g % s.board.colours ≡ f % s.board.colours → f ≤ g

pub first_taken : (k n m : ℕ) (free held : ℕ → Bool) → is_empty (taken k n m free held) ≡ false → head_or 0 (taken k n m free held) ≡ next_frame n m free held
unfolding taken
first_taken zero n m free held some = absurd (true≢false some)
first_taken (suc k) n m free held some = refl

pub first : (s : State) (d c : ℕ) → 0 < s.board.colours → is_empty (choices s d c) ≡ false → First s d c (head_or 0 (choices s d c))
unfolding choices
first s d c coloured some =
    let n : ℕ = s.board.colours in
    let m : ℕ = s.board.frames in
    let free : ℕ → Bool = is_free s.table n c in
    let held : ℕ → Bool = is_held s.table d in
    let g = head_has (Chosen s c) (choices s d c) (chosen s d c coloured) some in
    let r = next n m coloured free held (head_or 0 (choices s d c)) g.below (rw (g.free, g.inside)) in
    let is = first_taken (length (frees s c)) n m free held some in
    let empty : ℕ → Bool = has_word s.table 0 in
    let low : (x : ℕ) → 0 < in_colour n m empty x → Counts n m empty x (lowest (of_colour n empty x) m) = lowest_counts n m empty in
    record {
      choice = g;
      least = λ x i e. rw (is, r.colour) (rw (low x e).colour at (r.least _ (low x e).below (rw ((low x e).passes, (low x e).colour, i))));
      lowest_colour = λ x i e h.
          rw (is, r.colour)
          (rw (low x e).colour at
          (r.lowest_colour _ (low x e).below (rw ((low x e).passes, (low x e).colour, i)) (rw ((low x e).colour, ← r.colour, ← is) h)));
      lowest_frame = λ f z e. rw is (r.lowest_frame f (rw (z, e, g.inside)) (e ∙ rw is r.colour));
    }

-- the choices by the next frame: it is the first of them, or there are none
module _ (s : State) (d c : ℕ) (coloured : 0 < s.board.colours) where
  abbrev n : ℕ
  n = s.board.colours

  abbrev m : ℕ
  m = s.board.frames

  abbrev free : ℕ → Bool
  free = is_free s.table n c

  abbrev held : ℕ → Bool
  held = is_held s.table d

  pub next_some : next_frame n m free held < m → is_empty (choices s d c) ≡ false
  unfolding choices frees frames_with next_frame
  next_some h =
      let f : ℕ = next_frame n m free held in
      let e = (and_both (free f) (eqb (f % n) (next_colour n m free held)) (found (of_colour n free (next_colour n m free held)) 0 m h).passes).0 in
      some_member (choices s d c) (omega (arith, taken_count (length (frees s c)) n m free held, some_kept free m f h e))

  pub next_first : next_frame n m free held < m → head_or 0 (choices s d c) ≡ next_frame n m free held
  unfolding choices
  next_first h = first_taken (length (frees s c)) n m free held (next_some h)

  pub next_none : m ≤ next_frame n m free held → choices s d c ≡ []
  unfolding choices taken frees frames_with
  next_none h =
      below_or_not (lowest free m) m
      (λ l. absurd (lt_irrefl m (omega (arith, (next n m coloured free held (lowest free m) l (found free 0 m l).passes).below))))
      (λ l. ap (λ (k : ℕ). taken k n m free held) (ap length (kept_missed free m l)))

-- Two pairs of tests give the same frames where the same frames are free, and the same are held in their colours
module _ (n m : ℕ) where
  module _ (free held free' held' : ℕ → Bool) (same : (f : ℕ) → f < m → free f ≡ free' f)
      (own : (f g : ℕ) → f < m → g < m → free g ≡ true → f % n ≡ g % n → held f ≡ held' f) where
    same_colour : next_colour n m free held ≡ next_colour n m free' held'
    unfolding next_colour
    same_colour =
        same_fewest _ _ _ _ n
        (λ x. ap (ltb 0) (same_count n m free free' x (λ f l e. same f l)))
        (λ x e.
        let low = lowest_counts n m free x (ltb-true 0 (in_colour n m free x) e) in
        rw (same_count n m held held' x (λ f l z. own f _ l low.below low.passes (z ∙ sym low.colour))))

    same_frame : next_frame n m free held ≡ next_frame n m free' held'
    unfolding next_frame
    same_frame =
        same_lowest (of_colour n free (next_colour n m free held)) (of_colour n free' (next_colour n m free held)) m (λ f l. rw (same f l))
        ∙ ap (λ (x : ℕ). lowest (of_colour n free' x) m) same_colour

  pub same_taken : (k : ℕ) (free held free' held' : ℕ → Bool) → ((f : ℕ) → f < m → free f ≡ free' f)
      → ((f g : ℕ) → f < m → g < m → free g ≡ true → f % n ≡ g % n → held f ≡ held' f)
      → taken k n m free held ≡ taken k n m free' held'
  unfolding taken
  same_taken zero free held free' held' same own = refl
  same_taken (suc k) free held free' held' same own =
      let f : ℕ = next_frame n m free' held' in
      rw (same_frame free held free' held' same own)
      (ap (λ (fs : List ℕ). f ∷ fs)
      (same_taken k (without free f) _ (without free' f) _
      (λ g l. rw (same g l))
      (λ g h l o e z. rw (own g h l o (taken_free free f h e) z))))

-- a frame of the set is free by its own word alone
pub choice_local : (s r : State) (d c : ℕ) → s.board.frames ≡ r.board.frames → s.board.colours ≡ r.board.colours
    → ((f : ℕ) → f < s.board.frames → in_set s.board.colours c f ≡ true → word s.table f ≡ word r.table f) → choices s d c ≡ choices r d c
unfolding choices frees frames_with
choice_local s r d c frames colours same =
    let n : ℕ = s.board.colours in
    let m : ℕ = s.board.frames in
    let free : (f : ℕ) → f < m → is_free s.table n c f ≡ is_free r.table n c f =
    λ f l. cases (in_set n c f) (λ e. rw (same f l e)) (λ e. simp (e, and-false)) in
    rw (← colours, ← frames, ap length (same_kept (is_free s.table n c) (is_free r.table n c) m free))
    (same_taken n m _ (is_free s.table n c) _ (is_free r.table n c) _ free
    (λ f g l h e z. rw (same f l (rw z (free_parts s.table n c g e).1))))
