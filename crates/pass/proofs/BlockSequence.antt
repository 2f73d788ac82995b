-- The passes over a table, block after block: where a pass has come to, the block of sixteen words that is next there, and the rest after the last one.
use Prim.Native.Nat.{ℕ, ◌+◌, ◌-◌, ◌%◌, ◌<◌, ◌≤◌, min}
use native.Mathlib.Nat.{le_refl}
use native.Mathlib.Omega.{arith}
use mathlib.Core.List.{List}
use mathlib.Core.Path.{◌≡◌, refl, sym, ◌∙◌}
use lib.ListN.{length, take, drop, length-take, length-drop}
use lib.Seq.{take_all, take-take, length-take-le}
use borrow.Author.Tests.{lt-ltb, le-ltb}
use Rattle.limits.specs.Limits.{most_frames}
use Rattle.lists.proofs.CaseSplits.{below_or_not}
use Rattle.pass.specs.Steps.{read, at_most, AtBlock}
use Rattle.pass.proofs.BlockLoops.{part}

-- the lower of two numbers
at_most_is : (m n : ℕ) → at_most m n ≡ min m n
unfolding at_most
at_most_is m n = below_or_not n m (λ l. rw (lt-ltb n m l) (omega arith)) (λ l. rw (le-ltb n m l) (omega arith))

module _ (t : List ℕ) where
  pub record AtTurn (end taken : ℕ) : Type 0 where
    pub ends : end ≡ min most_frames (length t)
    pub within : taken ≤ end
    pub aligned : taken % 16 ≡ 0

  pub turn_start : (end : ℕ) → end ≡ at_most most_frames (length t) → AtTurn end 0
  turn_start end e = record { ends = e ∙ at_most_is most_frames (length t); within = omega arith; aligned = refl }

  -- the same, after as many words
  pub as_turn : {end next : ℕ} (taken : ℕ) → next ≡ taken → AtTurn end taken → AtTurn end next
  as_turn taken e r = rw e r

  module _ {end taken : ℕ} (r : AtTurn end taken) where
    -- no word after the end is read
    pub to_the_end : take end t ≡ read t
    to_the_end = sym (take-take end most_frames t (omega (arith, r.ends))) ∙ take_all end (read t) (omega (arith, r.ends, length-take most_frames t))

    long : (b : ℕ) → taken ≤ b → b ≤ end → length (part t taken b) ≡ b - taken
    long b from to = length-take-le (b - taken) (drop taken t) (simp length-drop (omega (arith, r.ends)))

    -- the next block
    module _ (l : 16 ≤ end - taken) where
      pub sixteen : 16 ≡ length (part t taken (taken + 16))
      sixteen = omega (arith, long (taken + 16) (omega arith) (omega arith))

      pub at_block : AtBlock taken 16
      at_block = record { aligned = r.aligned; few = le_refl 16; counted = omega (arith, r.ends) }

      pub next_turn : AtTurn end (taken + 16)
      next_turn = record { ends = r.ends; within = omega arith; aligned = omega (arith, r.aligned) }

    -- the rest
    pub rest_long : end - taken ≡ length (part t taken end)
    rest_long = sym (long end r.within (le_refl end))

    pub at_rest : end - taken < 16 → AtBlock taken (end - taken)
    at_rest l = record { aligned = r.aligned; few = omega arith; counted = omega (arith, r.ends, r.within) }

    pub at_last : (b : ℕ) → b ≡ end → end - taken < 16 → AtBlock taken (length (part t taken b))
    at_last b e l = rw (e, ← rest_long) (at_rest l)
