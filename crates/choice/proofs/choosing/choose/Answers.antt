-- `choice::choosing::choose` meets its contract: the frame of the least key.
use Rattle.choice.proofs.ChosenFrame.{by_least, by_none}
use Rattle.choice.proofs.choosing.choose.Goals as goal

pub returns-then-key-lt-FULL : goal.returns-then-key-lt-FULL
returns-then-key-lt-FULL c =
    let a = c.args in
    by_least _ _ _ a.held a.free c.frees_of-frees.result c.keys_of-keys.result c.frees_of-frees.ensures c.keys_of-keys.ensures _ c.least_key-key.ensures c.if-key-lt-FULL.true

pub returns-else-key-lt-FULL : goal.returns-else-key-lt-FULL
returns-else-key-lt-FULL c =
    let a = c.args in
    by_none _ _ _ a.held a.free c.frees_of-frees.result c.keys_of-keys.result c.frees_of-frees.ensures c.keys_of-keys.ensures _ c.least_key-key.ensures c.if-key-lt-FULL.false
