-- `table_words::search::pass_to_word` meets its contract. The invariant: the frame sought is sought from the block come to.
use Rattle.std.proofs.Common.{◌≡◌, ℕ, ◌+◌, ◌*◌, List, length, sym, ap, ◌∙◌, arith}
use Rattle.lists.specs.Range.{is_at, lowest_from}
use Rattle.table_words.proofs.SkippedFrames.{word_missed}
use Rattle.table_words.proofs.search.pass_to_word.Goals as goal

pub loop-block-preserved : goal.loop-block-preserved
loop-block-preserved c =
    let t : List ℕ = c.args.table.now in
    let h = c.loop-block in
    let next = word_missed t c.args.word (16 * h.block) (omega arith) (sym c.has_word.ensures ∙ c.if-has_word.false) in
    let same : 16 * h.block + 16 ≡ 16 * (h.block + 1) = omega arith in
    (h.invariant.0, h.invariant.1 ∙ next ∙ ap (λ f. lowest_from (is_at t c.args.word) f (length t)) same)
