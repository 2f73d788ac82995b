-- `report::input::read_words` meets its contract: the invariant has the words read over the front of the list.
use Prim.Native.Nat.{◌≤◌}
use mathlib.Core.List.{◌++◌}
use mathlib.Core.Path.{◌≡◌}
use lib.ListN.{length, take, drop}
use Rattle.report.specs.Input.{words_in}
use Rattle.report.proofs.input.read_words.Given as goal

abbrev pub invariant-loop-i : goal.invariant-loop-i
invariant-loop-i l =
    (l.i ≤ length l.list) × (length l.list ≡ length l.initial.list) × (l.list ≡ take l.i (words_in l.input l.k (length l.initial.list)) ++ drop l.i l.initial.list)
