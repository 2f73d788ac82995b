-- `frames::quotas::ask_quota` meets its contract: what 2 to 8, 26 and 27 reply settles it.
use Rattle.std.proofs.Common.{◌≡◌, sym, ap, ◌∙◌}
use Rattle.refusal.specs.Reply.{Answers}
use Rattle.calls.specs.Table.{state_of}
use Rattle.calls.specs.Calls.{Outcome}
use Rattle.frames.specs.Steps.{quota_reply}
use Rattle.frames.proofs.QuotaOutcome.{quota_refused, quota_given, asker_below}
use Rattle.frames.proofs.quotas.ask_quota.Goals as goal
use Rattle.frames.proofs.quotas.ask_quota.Goals.{In-Ok}

passes_27 : (c : In-Ok) → let a = c.args in quota_reply (state_of a.board a.table.now) a.domain a.quota ≡ Answers tt
passes_27 c = sym c.in-Ok.ensures

pub with_quota-requires : goal.with_quota-requires
with_quota-requires c = let a = c.args in asker_below (state_of a.board a.table.now) a.domain a.quota (passes_27 c)

pub returns-in-Err : goal.returns-in-Err
returns-in-Err c =
    let a = c.args in
    let e = quota_refused (state_of a.board a.table.now) a.domain a.quota _ _ (sym c.in-Err.ensures) in
    record { answer_value = sym (ap (λ (o : Outcome). o.reply) e); quotas_value = sym (ap (λ (o : Outcome). o.next.board.quotas) e) }

pub returns-in-Ok : goal.returns-in-Ok
returns-in-Ok c =
    let a = c.args in
    let e = quota_given (state_of a.board a.table.now) a.domain a.quota (passes_27 (goal.at.returns-in-Ok c).In-Ok) in
    record {
      answer_value = sym (ap (λ (o : Outcome). o.reply) e);
      quotas_value = c.with_quota.ensures ∙ sym (ap (λ (o : Outcome). o.next.board.quotas) e);
    }
