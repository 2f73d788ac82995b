-- `juzvanec::table::juzvanec_recolour` meets its contract: the call's reply, over the board that the words stand for, is told.
use mathlib.Core.Path.{ap, ◌∙◌}
use Rattle.refusal.specs.Reply.{Reply}
use Rattle.board.specs.declared.Board.{Board}
use Rattle.calls.specs.Table.{state_of}
use Rattle.calls.specs.Calls.{Answer, Outcome, with_active, recolour as recolour_call, listed}
use Rattle.marshal.specs.BoardWords.{board_of, words_after}
use Rattle.marshal.proofs.BoardRoundTrip.{words_left_lem}
use Rattle.marshal.proofs.Tellings.{told_moved}
use Rattle.juzvanec.proofs.table.juzvanec_recolour.Goals as goal

pub returns : goal.returns
returns c =
    let a = c.args in
    let on : Board → Outcome = λ b. recolour_call (state_of b a.table.now) a.domain a.set a.moves.now in
    let same = ap on c.board_of.ensures in
    let done = c.recolour-done.ensures in
    let reply = done.answer_value ∙ ap (λ (o : Outcome). o.reply) same in
    let table = done.table_after ∙ ap (λ (o : Outcome). o.next.table) same in
    let list = done.moves_after ∙ ap (λ (o : Outcome). listed o.moves a.moves.now) same in
    let words =
    c.write_recoloured.ensures
    ∙ ap (λ (p : Reply Answer). words_after p (with_active (board_of a.board.now) a.domain a.set) a.board.now) reply
    ∙ words_left_lem a.board.now a.table.now a.moves.now a.domain a.set in
    let t = told_moved _ c.from-told.ensures reply in
    record { holds = (t.number, t.value, t.row, words, table, list) }
