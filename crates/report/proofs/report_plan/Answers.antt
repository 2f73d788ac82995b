-- `report::report_plan` meets its contract: the verdict is admission's, and the lines are those of its times or of its refusal.
use Rattle.std.specs.Prelude.{replicate}
use mathlib.Core.Path.{refl}
use Prim.Native.Nat.{ℕ, ◌≤◌}
use native.Mathlib.Omega.{arith}
use mathlib.Core.List.{List}
use mathlib.Core.Path.{◌≡◌, sym, ap, ap₂, ◌∙◌}
use lib.ListN.{length}
use Rattle.admission.specs.Admission.{Judged}
use Rattle.text.specs.Text.{over, line, refused_name}
use Rattle.report.proofs.Verdict.{counts_few, as_judged, refused_text, judged_reply, times_told}
use Rattle.text.proofs.Lines.{few_lines}
use Rattle.report.proofs.report_plan.Goals as goal
use Rattle.report.proofs.report_plan.Goals.{After-count_rows-rows}

few : (c : After-count_rows-rows) → (c.count_rows-rows.result.domains ≤ 8) × (c.count_rows-rows.result.vcpus ≤ 16) × (c.count_rows-rows.result.tasks ≤ 32)
few c =
    let f = counts_few c.args.input.now c.requires.0 in
    let r = c.count_rows-rows.ensures in
    (omega (arith, f.0, r.0), omega (arith, f.1, r.1), omega (arith, f.2, r.2))

pub judge-verdict-requires : goal.judge-verdict-requires
judge-verdict-requires c =
    let r = c.count_rows-rows.ensures in
    let f = few (goal.at.judge-verdict-requires c).After-count_rows-rows in
    record { domains_value = (r.0, f.0); vcpus_value = (r.1, f.1); tasks_value = (r.2, f.2) }

pub returns-in-Ok : goal.returns-in-Ok
returns-in-Ok c =
    let i : List ℕ = c.args.input.now in
    let times : List ℕ = (replicate 48 0) in
    let rounds : List ℕ = (replicate 48 0) in
    let f = few (goal.at.returns-in-Ok c).After-count_rows-rows in
    let lt : length times ≡ 48 = refl in
    let lr : length rounds ≡ 48 = refl in
    let judged = ap (λ (o : Judged). o.reply) c.judge-verdict.ensures ∙ judged_reply i c.requires.0 times rounds lt lr in
    let told = sym (ap (λ (o : Judged). o.reply) c.in-Ok.ensures ∙ judged_reply i c.requires.0 times rounds lt lr) in
    let r = c.count_rows-rows.ensures in
    let w = c.write_admitted-length.ensures.holds in
    let text = few_lines _ _ _ f.1 f.2 ∙ times_told i c.requires.0 times rounds _ _ _ lt lr told (ap (λ (o : Judged). o.times) c.judge-verdict.ensures) r.1 r.2 in
    record {
      verdict_value = judged ∙ sym (as_judged i c.requires.0);
      words_value = (c.requires.1, w.0 ∙ ap (λ (l : List ℕ). length l) text, w.1);
      text_after = w.2 ∙ ap (λ (l : List ℕ). over l c.args.text.now) text;
    }

pub returns-in-Err : goal.returns-in-Err
returns-in-Err c =
    let i : List ℕ = c.args.input.now in
    let zeros : List ℕ = replicate 48 0 in
    let long : length zeros ≡ 48 = refl in
    let told = sym (ap (λ (o : Judged). o.reply) c.in-Err.ensures ∙ judged_reply i c.requires.0 zeros zeros long long) in
    let w = c.write_refused-length.ensures.holds in
    let text = ap₂ (λ (n r : ℕ). line refused_name n r) c.number.ensures c.row.ensures ∙ sym (refused_text i c.requires.0 _ _ told) in
    record {
      verdict_value = sym (as_judged i c.requires.0 ∙ told);
      words_value = (c.requires.1, w.0 ∙ ap (λ (l : List ℕ). length l) text, w.1);
      text_after = w.2 ∙ ap (λ (l : List ℕ). over l c.args.text.now) text;
    }
