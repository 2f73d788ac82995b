-- `admission::admit_plan` meets its contract: the first tests that refuse, or what is left to the times.
use native.Mathlib.Omega.{arith}
use mathlib.Core.Path.{◌≡◌, refl, sym, ap, ◌∙◌}
use Rattle.refusal.proofs.Results.{told_of}
use Rattle.plan.proofs.Validity.{roomy, valid}
use Rattle.admission.specs.Admission.{room_of, leaving}
use Rattle.admission.proofs.RefusalOrder.{by_board, by_plan, by_times}
use Rattle.admission.proofs.LentLists.{judged_by_lem, refused}
use Rattle.admission.proofs.admit_plan.Goals as goal
use Rattle.admission.proofs.admit_plan.Goals.{After-min-room}

-- the room is that of the shorter list
room : (c : After-min-room) → let a = c.args in c.min-room.result ≡ room_of a.times.now a.rounds.now
room c = omega (arith, c.min-room.ensures)

pub returns-in_err-check_board : goal.returns-in_err-check_board
returns-in_err-check_board c =
    let a = c.args in
    let no = by_board _ _ _ _ _ _ _ (sym c.in_err-check_board.ensures) in
    ap (λ p. leaving p a.times.now a.rounds.now) (told_of _ _ c.from_residual.ensures.1)
    ∙ refused _ _ _ _ _ _ _ _ no ∙ judged_by_lem _ _ _ _ _ _ _ refl

pub returns-in_err-check_plan : goal.returns-in_err-check_plan
returns-in_err-check_plan c =
    let a = c.args in
    let same = room (goal.at.returns-in_err-check_plan c).After-min-room in
    let no = by_plan _ _ _ _ _ (sym c.in_ok-check_board.ensures) _ _ (sym (rw same at c.in_err-check_plan.ensures)) in
    ap (λ p. leaving p a.times.now a.rounds.now) (told_of _ _ c.from_residual-in_err-check_plan.ensures.1)
    ∙ refused _ _ _ _ _ _ _ _ no ∙ judged_by_lem _ _ _ _ _ _ _ refl

pub admit_rows-requires : goal.admit_rows-requires
admit_rows-requires c =
    let p = sym (rw (room (goal.at.admit_rows-requires c).After-min-room) at c.in_ok-check_plan.ensures) in
    (valid _ _ _ _ _ p (sym c.in_ok-check_board.ensures), roomy _ _ _ _ _ p)

pub returns : goal.returns
returns c =
    let p = sym (rw (room (goal.at.returns c).After-min-room) at c.in_ok-check_plan.ensures) in
    c.admit_rows.ensures ∙ judged_by_lem _ _ _ _ _ _ _ (by_times _ _ _ _ _ (sym c.in_ok-check_board.ensures) p)
