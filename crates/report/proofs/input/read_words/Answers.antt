-- `report::input::read_words` meets its contract: the invariant has the words read over the front of the list.
use Prim.Native.Nat.{ℕ, ◌<◌, ◌≤◌}
use native.Mathlib.Omega.{arith}
use mathlib.Core.List.{List, append-nil}
use mathlib.Core.Path.{sym, ◌∙◌}
use lib.ListN.{length, length-set, drop_of_length-le}
use lib.Seq.{take_all}
use Rattle.lists.proofs.WrittenLists.{write_next}
use Rattle.report.specs.Input.{words_in}
use Rattle.report.proofs.InputWords.{length-words, word_at}
use Rattle.report.proofs.input.read_words.Goals as goal

pub loop-i-preserved : goal.loop-i-preserved
loop-i-preserved c =
    let s = c in
    let h = c.loop-i in
    let input : List ℕ = s.args.input.now in
    let lent : List ℕ = s.args.list.now in
    let in_list : h.i < length lent = omega arith in
    let in_words : h.i < length (words_in input s.args.k (length lent)) = rw (length-words input (length lent) s.args.k) in_list in
    let here = c.word_in.ensures ∙ sym (word_at input (length lent) s.args.k h.i in_list) in
    (simp length-set (omega arith), simp length-set h.invariant.1, rw (h.invariant.2, here) (write_next (words_in input s.args.k (length lent)) lent h.i in_words in_list))

pub returns : goal.returns
returns c =
    let s = c in
    let h = c.loop-i in
    let input : List ℕ = s.args.input.now in
    let lent : List ℕ = s.args.list.now in
    let all : length lent ≤ h.i = omega arith in
    h.invariant.2 ∙ rw (take_all h.i (words_in input s.args.k (length lent)) (rw (length-words input (length lent) s.args.k) all), drop_of_length-le lent all) (append-nil (words_in input s.args.k (length lent)))
