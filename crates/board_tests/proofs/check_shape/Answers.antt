-- `board_tests::check_shape` meets its contract: each return has the tests that led there.
use Rattle.std.proofs.Common.{◌≡◌, true, false, sym, ◌∙◌, arith}
use Rattle.std.proofs.lemmas.Bool.Decides.{nat_tests}
use Rattle.refusal.specs.Reply.{unless}
use Rattle.colours.specs.Cache.{is_colour_count}
use Rattle.board.specs.Tests.{bad_frames, bad_domains, board_reply, board_tests}
use Rattle.board_tests.proofs.check_shape.Goals as goal

pub returns-then-not-is_colour_count : goal.returns-then-not-is_colour_count
unfolding board_reply board_tests unless
returns-then-not-is_colour_count c = simp (sym c.is_colour_count.ensures ∙ c.if-not-is_colour_count.true)

pub returns-then-frames-eq0 : goal.returns-then-frames-eq0
unfolding board_reply board_tests unless
returns-then-frames-eq0 c =
    let two : is_colour_count c.args.board.now.colours ≡ true = sym c.is_colour_count.ensures ∙ c.if-not-is_colour_count.false in
    let three : bad_frames c.args.board.now c.args.words ≡ true = grind (arith, nat_tests) in
    simp (two, three)

pub returns-then-domains-eq0 : goal.returns-then-domains-eq0
unfolding board_reply board_tests unless
returns-then-domains-eq0 c =
    let two : is_colour_count c.args.board.now.colours ≡ true = sym c.is_colour_count.ensures ∙ c.if-not-is_colour_count.false in
    let three : bad_frames c.args.board.now c.args.words ≡ false = grind (arith, nat_tests) in
    let four : bad_domains c.args.board.now ≡ true = grind (arith, nat_tests) in
    simp (two, three, four)

pub returns : goal.returns
unfolding board_reply board_tests unless
returns c =
    let two : is_colour_count c.args.board.now.colours ≡ true = sym c.is_colour_count.ensures ∙ c.if-not-is_colour_count.false in
    let three : bad_frames c.args.board.now c.args.words ≡ false = grind (arith, nat_tests) in
    let four : bad_domains c.args.board.now ≡ false = grind (arith, nat_tests) in
    simp (two, three, four, c.check_domains.ensures)
