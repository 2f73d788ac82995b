-- `report::input::judge` meets its contract: the lists read are the VCPUs and tasks of the input.
use Rattle.std.specs.Prelude.{replicate}
use native.Mathlib.Omega.{arith}
use mathlib.Core.Path.{◌∙◌}
use Rattle.report.proofs.InputWords.{reload_read, vcpus_read, tasks_read, same_judged}
use Rattle.report.proofs.input.judge.Goals as goal

pub returns : goal.returns
returns c =
    let a = c.args in
    let d = c.requires.domains_value in
    let v = c.requires.vcpus_value in
    let t = c.requires.tasks_value in
    let reload = reload_read a.input.now a.rows.domains d.0 _ c.word_in-reload.ensures in
    let vcpus = vcpus_read a.input.now a.rows.domains d.0 a.rows.vcpus v.0 _ (replicate 64 0) (omega (arith, v.1)) c.read_words.ensures in
    let tasks = tasks_read a.input.now a.rows.domains d.0 a.rows.vcpus v.0 _ (replicate 640 0) a.rows.tasks t.0 (omega (arith, t.1)) c.read_words-2.ensures in
    c.admit_plan.ensures ∙ same_judged a.input.now _ _ _ _ c.read_board-board.ensures reload vcpus tasks a.times.now a.rounds.now
