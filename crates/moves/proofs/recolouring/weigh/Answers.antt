-- `moves::recolouring::weigh` meets its contract: 12, and then 13.
use Prim.Native.Nat.{ℕ}
use native.Mathlib.Omega.{arith}
use mathlib.Core.Path.{sym, ap₂, ◌∙◌}
use Rattle.moves.specs.Steps.{weighed}
use Rattle.moves.proofs.RecolouringReply.{weighed_twelve, weighed_thirteen, weighed_count}
use Rattle.moves.proofs.recolouring.weigh.Goals as goal

pub returns-then-sum_side-count : goal.returns-then-sum_side-count
returns-then-sum_side-count c =
    sym (weighed_twelve _ _ c.args.room c.if-sum_side-count.true) ∙ ap₂ (λ (k g : ℕ). weighed k g c.args.room) c.sum_side-count.ensures c.sum_side.ensures

pub returns-then-room-count : goal.returns-then-room-count
returns-then-room-count c =
    sym (weighed_thirteen _ _ c.args.room (omega arith) c.if-room-count.true) ∙ ap₂ (λ (k g : ℕ). weighed k g c.args.room) c.sum_side-count.ensures c.sum_side.ensures

pub returns : goal.returns
returns c =
    sym (weighed_count _ _ c.args.room (omega arith) c.if-room-count.false) ∙ ap₂ (λ (k g : ℕ). weighed k g c.args.room) c.sum_side-count.ensures c.sum_side.ensures
