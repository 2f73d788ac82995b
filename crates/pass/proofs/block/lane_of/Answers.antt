-- `pass::block::lane_of` meets its contract: what `find` gives is the lowest lane with the word.
use Rattle.std.proofs.Common.{◌≡◌, true, false, rules}
use Rattle.std.proofs.lemmas.Iterator.{first_from_Range}
use Rattle.lists.specs.Range.{is_at}
use Rattle.lists.proofs.Finds.{lowest_found}
use Rattle.pass.proofs.block.lane_of.Goals as goal

pub returns : goal.returns
returns c =
    let a = c.args in
    lowest_found (is_at a.block a.word) a.filled _
    (first_from_Range _ _ _ c.find.result (λ x. is_at a.block a.word x ≡ true) (λ x. is_at a.block a.word x ≡ false) c.find.ensures.ran (λ x q k. search (rules)) (λ x q k. search (rules)))
