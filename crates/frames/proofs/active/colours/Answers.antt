-- `frames::active::colours` meets its contract.
use Rattle.std.proofs.Common.{sym, ap, ◌∙◌}
use Rattle.refusal.specs.Reply.{unless}
use Rattle.refusal.proofs.Results.{told_with}
use Rattle.calls.specs.Calls.{Outcome, settle, colours}
use Rattle.calls.proofs.CallTests.{call_refused, call_passed}
use Rattle.frames.proofs.active.colours.Goals as goal

pub returns-in_err-check_call : goal.returns-in_err-check_call
unfolding colours
returns-in_err-check_call c =
    told_with _ _ _ c.from_residual.ensures.1 ∙ sym (ap (λ (o : Outcome). o.reply) (call_refused _ c.args.domain _ _ _ _ (sym c.in_err-check_call.ensures)))

pub returns : goal.returns
unfolding colours unless settle
returns c =
    rw (c.active_set.ensures, c.quota.ensures) (sym (ap (λ (o : Outcome). o.reply) (call_passed _ c.args.domain _ _ (sym c.in_ok-check_call.ensures))))
