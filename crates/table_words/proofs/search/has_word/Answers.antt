-- `table_words::search::has_word` meets its contract: the fold asks what the definition does.
use Rattle.std.proofs.Common.{false, ◌||◌, nat_eq, ◌∙◌, rules, tests}
use Rattle.std.proofs.lemmas.Iterator.{YieldsList-from_slice}
use Rattle.std.proofs.lemmas.Iterator.Consumers.{fold_from_yields_List}
use Rattle.table_words.proofs.BlockWords.{word_asked}
use Rattle.table_words.proofs.search.has_word.Goals as goal

pub returns : goal.returns
returns c =
    fold_from_yields_List _ (λ b x. b || nat_eq x c.args.word) false c.fold.result c.fold.ensures.ran (YieldsList-from_slice c.args.block.now c.iter.ensures.rest) (λ a x b q k. search (rules, tests))
    ∙ word_asked c.args.word c.args.block.now
