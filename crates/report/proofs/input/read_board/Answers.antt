-- `report::input::read_board` meets its contract: the grants stand in front of zeros.
use Rattle.std.specs.Prelude.{replicate}
use mathlib.Core.Path.{refl}
use Rattle.report.specs.Input.{board_in}
use Rattle.report.proofs.InputWords.{grants_read}
use Rattle.report.proofs.input.read_board.Goals as goal

pub returns : goal.returns
unfolding board_in
returns c =
    let s = c in
    let read = c.read_words in
    let g = grants_read s.args.input.now s.args.domains s.requires.0 read.new.list (replicate 8 0) s.requires.1 refl read.ensures in
    λ j. record {
      colours = c.word_in.ensures j;
      frames = c.word_in-2.ensures j;
      domains = s.requires.0 j;
      grants = g j;
      active = g j;
      quotas = c.first_quotas.ensures j;
    }
