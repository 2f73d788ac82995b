-- `frames::quotas::set_quota` meets its contract: of the lent board the quotas alone change, to those that ask_quota gives.
use Rattle.std.proofs.Common.{◌∙◌, sym, ap}
use Rattle.calls.specs.Table.{state_of}
use Rattle.calls.specs.Calls.{with_quotas}
use Rattle.frames.proofs.QuotaOutcome.{only_quotas}
use Rattle.frames.proofs.quotas.set_quota.Goals as goal

pub returns-clause-board_after : goal.returns-clause-board_after
returns-clause-board_after c =
    let a = c.args in
    ap (with_quotas a.board.now) c.ask_quota-asked.ensures.quotas_value ∙ sym (only_quotas (state_of a.board.now a.table.now) a.domain a.quota)
