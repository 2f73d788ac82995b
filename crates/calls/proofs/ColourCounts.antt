-- Frames counted by colour: where a colour has any that pass a test there is a lowest, and how the counts of two tests compare that agree, that differ
-- at one frame, or of which one passes wherever the other does.
use Prim.Native.Nat.{ℕ, suc, ◌%◌, ◌<◌, ◌≤◌}
use mathlib.Core.Bool.{Bool, true, false, and-false}
use mathlib.Core.Path.{◌≡◌, refl, ap}
use lib.Dec.{eqb}
use lib.ListN.{length}
use borrow.Author.Tests.{eq-eqb, eqb-true}
use Rattle.lists.specs.Range.{lowest}
use Rattle.lists.proofs.CaseSplits.{cases, and_both}
use Rattle.lists.proofs.FilteredRange.{same_kept}
use Rattle.lists.proofs.Searches.{found, none_kept}
use Rattle.lists.proofs.AgreeingTests.{some_kept, some_lowest, one_fewer, no_fewer}
use Rattle.calls.specs.FrameChoice.{of_colour, in_colour}

module _ (n m : ℕ) where
  -- a frame that passes counts in its own colour
  pub in_own_colour : (p : ℕ → Bool) (g : ℕ) → g < m → p g ≡ true → 0 < in_colour n m p (g % n)
  unfolding in_colour
  in_own_colour p g l e = some_kept (of_colour n p (g % n)) m g l (rw (e, eq-eqb (g % n) (g % n) refl))

  -- frame f passes and has colour x
  pub record Counts (p : ℕ → Bool) (x f : ℕ) : Type 0 where
    pub below : f < m
    pub passes : p f ≡ true
    pub colour : f % n ≡ x

  pub lowest_counts : (p : ℕ → Bool) (x : ℕ) → 0 < in_colour n m p x → Counts p x (lowest (of_colour n p x) m)
  unfolding in_colour
  lowest_counts p x some =
      let low = some_lowest (of_colour n p x) m some in
      let o = and_both (p (lowest (of_colour n p x) m)) _ (found (of_colour n p x) 0 m low).passes in
      record { below = low; passes = o.0; colour = eqb-true _ x o.1 }

  pub none_counts : (p : ℕ → Bool) (x : ℕ) → ((f : ℕ) → f < m → p f ≡ false) → in_colour n m p x ≡ 0
  unfolding in_colour
  none_counts p x none = ap length (none_kept (of_colour n p x) m (λ f l. rw (none f l)))

  module _ (p q : ℕ → Bool) (x : ℕ) where
    pub same_count : ((f : ℕ) → f < m → f % n ≡ x → p f ≡ q f) → in_colour n m p x ≡ in_colour n m q x
    unfolding in_colour
    same_count same =
        ap length (same_kept (of_colour n p x) (of_colour n q x) m
        (λ f l. cases (eqb (f % n) x) (λ e. rw (same f l (eqb-true _ x e))) (λ e. rw (e, and-false (p f), and-false (q f)))))

    pub no_fewer_count : ((f : ℕ) → p f ≡ true → q f ≡ true) → in_colour n m p x ≤ in_colour n m q x
    unfolding in_colour
    no_fewer_count more =
        no_fewer (of_colour n p x) (of_colour n q x) (λ f e. let o = and_both (p f) (eqb (f % n) x) e in rw (more f o.0, o.1)) m 0

    pub one_fewer_count : (g : ℕ) → ((f : ℕ) → (f ≡ g → ⊥) → p f ≡ q f) → in_colour n m p x ≤ suc (in_colour n m q x)
    unfolding in_colour
    one_fewer_count g same = one_fewer (of_colour n p x) (of_colour n q x) g (λ f other. rw (same f other)) m 0
