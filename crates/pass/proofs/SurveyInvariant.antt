-- The survey under way: the words before the one it has come to are counted. This is the invariant of the loop over the blocks, with its laws, which know
-- nothing of the code.
use Prim.Native.Nat.{ℕ, ◌≤◌}
use native.Mathlib.Nat.{zero-add}
use native.Mathlib.Omega.{arith}
use mathlib.Core.Bool.{Bool}
use mathlib.Core.List.{List}
use mathlib.Core.Path.{◌≡◌, refl, sym, ap, ap₂, ◌∙◌}
use lib.ListN.{length, take, length-take}
use Rattle.tally.specs.Tally.{is_own, zeros, LanesAtMost, count_all}
use Rattle.tally.proofs.ClosedForm.{count_append, count_length, count_shift, count_within, zeros_length, zeros_within}
use Rattle.pass.specs.Steps.{read, is_free, LanesFit, lanes_of}
use Rattle.pass.proofs.BlockLoops.{part, then_part}
use Rattle.pass.proofs.BlockSequence.{AtTurn, to_the_end}

-- words that pass a test, counted by lane before word `taken`
module _ (p : ℕ → Bool) (t : List ℕ) where
  pub record Tallied (lanes : List ℕ) (taken : ℕ) : Type 0 where
    pub so_far : lanes ≡ count_all p zeros 0 (take taken t)

  pub tally_start : Tallied zeros 0
  unfolding count_all
  tally_start = record { so_far = refl }

  -- the same, after as many words
  pub as_tallied : {lanes : List ℕ} {next : ℕ} (taken : ℕ) → next ≡ taken → Tallied lanes taken → Tallied lanes next
  as_tallied taken e r = rw e r

  module _ {lanes : List ℕ} {taken : ℕ} (r : Tallied lanes taken) where
    size : 16 ≡ length lanes
    size = sym (ap length r.so_far ∙ count_length p zeros 0 (take taken t) ∙ zeros_length)

    -- no lane counts more than the words
    few : LanesAtMost taken lanes
    few i = rw r.so_far (omega (arith, count_within p 0 zeros 0 (take taken t) (zeros_within 0) i, length-take taken t))

    module _ {end : ℕ} (turn : AtTurn t end taken) where
      pub tally_fits : LanesFit lanes
      tally_fits = record { size = size; room = λ i. omega (arith, few i, turn.ends, turn.within) }

      -- the words up to b were counted, in a block that starts at a multiple of sixteen
      pub tally_on : (b : ℕ) → taken ≤ b → (next : List ℕ) → next ≡ count_all p lanes 0 (part t taken b) → Tallied next b
      tally_on b from next e =
          record {
            so_far =
                e
                ∙ count_shift p lanes 0 taken (part t taken b) (sym turn.aligned)
                ∙ ap₂ (λ (l : List ℕ) (f : ℕ). count_all p l f (part t taken b)) r.so_far (sym (zero-add taken))
                ∙ sym (then_part (count_all p) (count_append p) zeros 0 t taken b from (omega (arith, turn.ends, turn.within)));
          }

      -- the rest was counted
      pub tally_end : (all : List ℕ) → all ≡ count_all p lanes 0 (part t taken end) → all ≡ count_all p zeros 0 (read t)
      tally_end all e = (tally_on end turn.within all e).so_far ∙ ap (count_all p zeros 0) (to_the_end t turn)

-- both lanes are what the survey gives
pub surveyed : (counted : Bool) (low : ℕ) (t held free : List ℕ) → held ≡ count_all (is_own low) zeros 0 (read t) → free ≡ count_all (is_free counted) zeros 0 (read t)
    → record { held = held; free = free } ≡ lanes_of counted low (read t)
unfolding lanes_of
surveyed counted low t held free h f = λ j. record { held = h j; free = f j }
