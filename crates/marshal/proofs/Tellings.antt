-- What tells a reply tells an equal one, and what tells a number tells it as the count of moves.
use Prim.Native.Nat.{ℕ}
use mathlib.Core.Path.{◌≡◌, ◌∙◌, ap}
use Rattle.std.specs.Prelude.{Result, Ok, Err}
use Rattle.refusal.specs.declared.Refusal.{Refusal}
use Rattle.refusal.specs.Numbers.{reply_of, reply_with}
use Rattle.refusal.specs.Reply.{Reply}
use Rattle.calls.specs.Calls.{Answer, Moved}
use Rattle.marshal.specs.declared.replies.ReplyNumbers.{ReplyNumbers}
use Rattle.marshal.specs.Replies.{number_of, row_of, value_of, Tells, itself, nothing, number_in, second_in}

pub told_same : {A : Type 0} (f g : A → ℕ) {p q : Reply A} {t : ReplyNumbers} → Tells f g p t → p ≡ q → Tells f g q t
told_same f g h e =
    record { number = h.number ∙ ap number_of e; row = h.row ∙ ap row_of e; value = h.value ∙ ap (value_of f) e; second = h.second ∙ ap (value_of g) e }

pub told_moved : (r : Result ℕ Refusal) {q : Reply Answer} {t : ReplyNumbers} → Tells itself nothing (reply_of r) t → reply_with Moved r ≡ q → Tells number_in second_in q t
told_moved (Ok n) h e = told_same number_in second_in (record { number = h.number; row = h.row; value = h.value; second = h.second }) e
told_moved (Err r) h e = told_same number_in second_in (record { number = h.number; row = h.row; value = h.value; second = h.second }) e
