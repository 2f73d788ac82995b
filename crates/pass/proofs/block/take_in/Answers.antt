-- `pass::block::take_in` meets its contract. The invariant: the block has the words passed, the domain's are counted, and one of them matters, or it is
-- asked of those ahead.
use Prim.Native.Nat.{ℕ, ◌+◌, ◌<◌}
use native.Mathlib.Omega.{arith}
use mathlib.Core.List.{List, ◌++◌}
use mathlib.Core.Path.{◌≡◌, refl, sym, ap, ap₂, ◌∙◌}
use lib.ListN.{length, get_or, take, drop, set, length-set}
use lib.Seq.{take_all}
use Rattle.lists.proofs.RangeLoops.{any_start, asked_next, asked_end}
use Rattle.lists.proofs.WrittenLists.{write_next}
use Rattle.tally.specs.Tally.{is_own}
use Rattle.pass.specs.Steps.{matters}
use Rattle.pass.proofs.BlockLoops.{counted_start, counted_next, counted_end}
use Rattle.pass.proofs.block.take_in.Goals as goal

pub loop-i-init : goal.loop-i-init
loop-i-init c = (sym c.requires.2, refl, counted_start _ _ _ c.requires.1, any_start _ (length c.args.words.now))

pub loop-i-preserved : goal.loop-i-preserved
loop-i-preserved c =
    let h = c.loop-i in
    let a = c.args in
    let t : List ℕ = a.words.now in
    let l : h.i < length t = c.loop-i-test.true in
    let next : set h.block h.i (get_or t h.i 0) ≡ take (h.i + 1) t ++ drop (h.i + 1) a.block.now = ap (λ (b : List ℕ). set b h.i (get_or t h.i 0)) h.invariant.1 ∙ write_next t a.block.now h.i l (omega (arith, c.requires)) in (
      simp length-set h.invariant.0,
      next,
      counted_next (is_own a.own.first) a.held.now t h.invariant.2 l (omega arith) _ c.count.ensures,
      asked_next (matters t a.word a.free.now) (length t) h.i h.stop l h.invariant.3,
    )

pub returns : goal.returns
returns c =
    let h = c.loop-i in
    let a = c.args in
    let t : List ℕ = a.words.now in
    let all : take h.i t ≡ t = take_all h.i t (omega arith) in
    let end : h.i ≡ length t = omega arith in
    record {
      value = asked_end (matters t a.word a.free.now) (length t) h.i h.stop (omega arith) h.invariant.3;
      held_after = counted_end _ _ _ h.invariant.2 (omega arith);
      block_after = h.invariant.1 ∙ ap₂ (λ (xs : List ℕ) (j : ℕ). xs ++ drop j a.block.now) all end;
    }
