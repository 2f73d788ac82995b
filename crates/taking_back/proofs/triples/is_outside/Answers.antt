-- `taking_back::triples::is_outside` meets its contract.
use Rattle.std.proofs.Common.{ℕ, ◌≡◌, Bool, true, false, not, refl, ap, ◌∙◌, if◌then◌else◌}
use mir.Val.{bool_byte}
use Rattle.table_words.proofs.Masks.{masked_is}
use Rattle.taking_back.proofs.triples.is_outside.Goals as goal

other_way : (inside : Bool) → ◌≡◌ {A = ℕ} (bool_byte (not inside)) (if inside then 0 else 1)
other_way true = refl
other_way false = refl

pub returns : goal.returns
returns c =
    let s = c.args.former in
    c.from.ensures ∙ other_way _ ∙ ap (λ (inside : Bool). if inside then 0 else 1) (c.in_set.ensures ∙ masked_is s.colours s.set c.args.frame s.counted)
