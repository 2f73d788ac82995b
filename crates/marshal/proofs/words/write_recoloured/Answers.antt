-- `marshal::words::write_recoloured` meets its contract: a word is written where the answer is a count.
use Rattle.std.proofs.Common.{◌≡◌, arith, rules, sym, length}
use Rattle.marshal.proofs.BoardRoundTrip.{one_word, no_word}
use Rattle.marshal.proofs.words.write_recoloured.Goals as goal

pub returns-then-domain-lt8 : goal.returns-then-domain-lt8
returns-then-domain-lt8 c =
    let a = c.args in
    let long : length a.words.now ≡ 27 = search rules in
    rw c.in-Ok.is (sym (one_word a.words.now a.domain a.set long (omega arith)))

pub returns-else-domain-lt8 : goal.returns-else-domain-lt8
returns-else-domain-lt8 c =
    let a = c.args in
    let long : length a.words.now ≡ 27 = search rules in
    rw c.in-Ok.is (sym (no_word a.words.now a.domain a.set long (omega arith)))
