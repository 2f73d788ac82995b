-- The pass of a fault under way: what is kept is that of the words before the one it has come to. This is the invariant of the loop over the blocks, with
-- its laws, which know nothing of the code.
use Prim.Native.Nat.{ℕ, ◌+◌, ◌-◌, ◌<◌, ◌≤◌}
use native.Mathlib.Omega.{arith}
use mathlib.Core.Bool.{Bool, false}
use mathlib.Core.List.{List, ◌++◌}
use mathlib.Core.Path.{◌≡◌, refl, sym, ap, ◌∙◌}
use lib.ListN.{length, take, drop, take-append-drop}
use lib.Seq.{take-take}
use Rattle.limits.specs.Limits.{most_frames}
use Rattle.lists.specs.Range.{is_at, lowest}
use Rattle.tally.specs.declared.Tally.{Tally}
use Rattle.tally.specs.Tally.{is_own, zeros, LanesAtMost, note_all, start, take_all, so_far, found}
use Rattle.tally.proofs.ClosedForm.{count_length, count_within, zeros_length, zeros_within, take_append, known_stays}
use Rattle.pass.specs.Steps.{read, at_most, LanesFit}
use Rattle.pass.proofs.BlockLoops.{part, up_to}
use Rattle.pass.proofs.BlockTally.{Learnt, by_word, by_other, by_none}
use Rattle.pass.proofs.BlockSequence.{AtTurn, turn_start, to_the_end, sixteen, at_block, next_turn}

module _ (t : List ℕ) (w low : ℕ) where
  pub record PassUnderWay (end : ℕ) (held free : List ℕ) (taken : ℕ) : Type 0 where
    pub turn : AtTurn t end taken
    pub size : length held ≡ 16
    pub room : LanesAtMost taken held
    pub kept : take_all (start w low) (take taken t) ≡ so_far w low held free taken

  pub going_start : (end : ℕ) → end ≡ at_most most_frames (length t) → PassUnderWay end zeros zeros 0
  unfolding start take_all
  going_start end e = record { turn = turn_start t end e; size = zeros_length; room = zeros_within 0; kept = refl }

  -- the same, after as many words
  pub as_far : {end : ℕ} {held free : List ℕ} {next : ℕ} (taken : ℕ) → next ≡ taken → PassUnderWay end held free taken → PassUnderWay end held free next
  as_far taken e r = rw e r

  module _ {end : ℕ} {held free : List ℕ} {taken : ℕ} (r : PassUnderWay end held free taken) where
    pub going_fits : LanesFit held
    going_fits = record { size = sym r.size; room = λ i. omega (arith, r.room i, r.turn.ends, r.turn.within) }

    -- the words up to b
    over : (b : ℕ) → taken ≤ b → take_all (start w low) (take b t) ≡ take_all (so_far w low held free taken) (part t taken b)
    over b from =
        ap (take_all (start w low)) (up_to t taken b from)
        ∙ take_append (start w low) (take taken t) (part t taken b)
        ∙ ap (λ (k : Tally). take_all k (part t taken b)) r.kept

    -- the last words
    pub going_end : (b : ℕ) → b ≡ end → take_all (so_far w low held free taken) (part t taken b) ≡ take_all (start w low) (read t)
    going_end b e = ap (λ (n : ℕ). take_all (so_far w low held free taken) (part t taken n)) e ∙ sym (over end r.turn.within) ∙ ap (take_all (start w low)) (to_the_end t r.turn)

    -- a block was read
    module _ (l : 16 ≤ end - taken) {stop : Bool} {counts block : List ℕ} (learnt : Learnt w low held free (part t taken (taken + 16)) stop counts block) where
      abbrev words : List ℕ
      words = part t taken (taken + 16)

      abbrev after : List ℕ
      after = drop (taken + 16) (read t)

      -- the page's word is in it
      pub going_found : (lane : ℕ) → lane ≡ lowest (is_at block w) 16 → lane < 16 → found w low (taken + lane + 1) ≡ take_all (start w low) (read t)
      going_found lane is h =
          let has = by_word w low held free words (at_block t r.turn l) (sixteen t r.turn l) learnt lane is h in
          let all : take (taken + 16) t ++ after ≡ read t = ap (λ (xs : List ℕ). xs ++ after) (sym (take-take (taken + 16) most_frames t (omega (arith, r.turn.ends)))) ∙ take-append-drop (taken + 16) (read t) in
          sym
          (ap (take_all (start w low)) (sym all)
          ∙ take_append (start w low) (take (taken + 16) t) after
          ∙ ap (λ (k : Tally). take_all k after) (over (taken + 16) (omega arith) ∙ sym has)
          ∙ known_stays (found w low (taken + lane + 1)) after (omega arith))

      on : (next : List ℕ) → so_far w low counts next (taken + 16) ≡ take_all (so_far w low held free taken) words → PassUnderWay end counts next (taken + 16)
      on next is =
          record {
            turn = next_turn t r.turn l;
            size = ap length learnt.1.0 ∙ count_length (is_own low) held 0 words ∙ r.size;
            room = λ i. rw learnt.1.0 (omega (arith, count_within (is_own low) taken held 0 words r.room i, sixteen t r.turn l));
            kept = over (taken + 16) (omega arith) ∙ sym is;
          }

      -- it is not, and the free frames are noted
      pub going_past : (lane : ℕ) → lane ≡ lowest (is_at block w) 16 → 16 ≤ lane → (next : List ℕ) → next ≡ note_all free taken (take 16 block) → PassUnderWay end counts next (taken + 16)
      going_past lane is h next e =
          on next (by_other w low held free words (at_block t r.turn l) (sixteen t r.turn l) learnt lane is h next e)

      -- no word of it matters
      pub going_over : stop ≡ false → PassUnderWay end counts free (taken + 16)
      going_over quiet = on free (by_none w low held free words (at_block t r.turn l) (sixteen t r.turn l) learnt quiet)
