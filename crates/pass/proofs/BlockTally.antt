-- What is kept after the words of a block of at most sixteen frames, which starts at a multiple of sixteen, by what was learnt when they were read into
-- an array: whether one of them matters, and the counts.
use Prim.Native.Nat.{ℕ, ◌+◌, ◌%◌, ◌<◌, ◌≤◌}
use native.Mathlib.Omega.{arith}
use mathlib.Core.Bool.{Bool, false, ◌&&◌}
use mathlib.Core.List.{List, ◌++◌}
use mathlib.Core.Path.{◌≡◌, sym, ap, ap₂, ◌∙◌}
use lib.Dec.{eqb}
use lib.ListN.{length, get_or, take, drop, replicate, get_or-append}
use lib.Seq.{take_at}
use Rattle.lists.specs.Range.{is_at, upto, any_of, lowest}
use Rattle.lists.proofs.CaseSplits.{neither}
use Rattle.lists.proofs.Searches.{any_none, none_lowest}
use Rattle.lists.proofs.AgreeingTests.{same_lowest}
use Rattle.tally.specs.Tally.{is_own, count_all, note_all, take_all, so_far, found}
use Rattle.tally.proofs.ClosedForm.{count_shift, note_quiet, has_come, not_come}
use Rattle.pass.specs.Steps.{matters, AtBlock}

-- what is learnt of words that are read into an array of zeros: whether one matters, the domain's words counted, and the array
abbrev pub Learnt : ℕ → ℕ → List ℕ → List ℕ → List ℕ → Bool → List ℕ → List ℕ → Type 0
Learnt w first held free xs stop counts block =
    (stop ≡ any_of (matters xs w free) (upto (length xs))) × ((counts ≡ count_all (is_own first) held 0 xs) × (block ≡ xs ++ drop (length xs) (replicate 16 0)))

-- the words of a block of the frames from `taken` on
module _
    (w first : ℕ) (held free xs : List ℕ) {taken filled : ℕ} (at : AtBlock taken filled) (full : filled ≡ length xs)
    {stop : Bool} {counts block : List ℕ} (learnt : Learnt w first held free xs stop counts block) where
  abbrev rest : List ℕ
  rest = drop (length xs) (replicate 16 0)

  front : take filled block ≡ xs
  front = ap (take filled) learnt.1.1 ∙ take_at xs rest filled (sym full)

  alike : (p : ℕ → Bool) (lanes : List ℕ) → count_all p lanes 0 xs ≡ count_all p lanes taken xs
  alike p lanes = count_shift p lanes 0 taken xs (sym at.aligned)

  -- the lanes after its words: the domain's counted, the free frames noted
  pub counts_are : counts ≡ count_all (is_own first) held taken xs
  counts_are = learnt.1.0 ∙ alike (is_own first) held

  pub notes_are : (next : List ℕ) → next ≡ note_all free taken (take filled block) → next ≡ note_all free taken xs
  notes_are next e = e ∙ ap (note_all free taken) front

  -- none of them matters
  module _ (quiet : stop ≡ false) where
    none : (i : ℕ) → i < length xs → (is_at xs w i ≡ false) × ((eqb (get_or xs i 0) 0 && eqb (get_or free i 0) 0) ≡ false)
    none i l = neither _ _ (any_none (matters xs w free) (length xs) i (sym learnt.0 ∙ quiet) l)

    pub notes_stay : note_all free taken xs ≡ free
    notes_stay =
        note_quiet free taken xs
        (λ i l. let lane : (taken + i) % 16 ≡ i = omega (arith, at.aligned, at.few) in rw lane (none i l).1)

    no_word : lowest (is_at xs w) (length xs) ≡ length xs
    no_word = none_lowest (is_at xs w) (length xs) (λ i l. (none i l).0)

  -- what is kept in a fault
  word_is : lowest (is_at block w) filled ≡ lowest (is_at xs w) (length xs)
  word_is =
      same_lowest (is_at block w) (is_at xs w) filled
      (λ i l. ap (λ (y : ℕ). eqb y w) (ap (λ (b : List ℕ). get_or b i 0) learnt.1.1 ∙ get_or-append xs rest 0 i (omega (arith, full))))
      ∙ ap (lowest (is_at xs w)) full

  pub by_word : (lane : ℕ) → lane ≡ lowest (is_at block w) filled → lane < filled → found w first (taken + lane + 1) ≡ take_all (so_far w first held free taken) xs
  by_word lane is l =
      let same : lane ≡ lowest (is_at xs w) (length xs) = is ∙ word_is in
      ap (λ (i : ℕ). found w first (taken + i + 1)) same ∙ sym (has_come w first taken xs held free (omega (arith, same, full)))

  passed : length xs ≤ lowest (is_at xs w) (length xs) → (next : List ℕ) → next ≡ note_all free taken xs → so_far w first counts next (taken + filled) ≡ take_all (so_far w first held free taken) xs
  passed h next e =
      ap₂ (λ (c l : List ℕ). so_far w first c l (taken + filled)) counts_are e
      ∙ ap (λ (n : ℕ). so_far w first (count_all (is_own first) held taken xs) (note_all free taken xs) (taken + n)) full
      ∙ sym (not_come w first taken xs held free h)

  pub by_other : (lane : ℕ) → lane ≡ lowest (is_at block w) filled → filled ≤ lane → (next : List ℕ) → next ≡ note_all free taken (take filled block) → so_far w first counts next (taken + filled) ≡ take_all (so_far w first held free taken) xs
  by_other lane is l next e = passed (omega (arith, is ∙ word_is, full)) next (notes_are next e)

  pub by_none : stop ≡ false → so_far w first counts free (taken + filled) ≡ take_all (so_far w first held free taken) xs
  by_none quiet = passed (omega (arith, no_word quiet)) free (sym (notes_stay quiet))
