-- What a result of some tests says of those tests and others behind them: the first error that a `?` hands on is the reply of all, and where the
-- result is no error the others decide.
use mathlib.Core.Bool.{true, false}
use mathlib.Core.List.{List, [], ◌∷◌, ◌++◌}
use mathlib.Core.Path.{◌≡◌, refl, sym, ◌∙◌}
use Rattle.refusal.specs.declared.Refusal.{Refusal}
use Rattle.refusal.specs.Numbers.{number_of, row_of, reply_of, reply_with}
use Rattle.std.specs.Prelude.{Result, Ok, Err, IsErrAnd}
use Rattle.refusal.specs.Reply.{Answers, Refuses, Test, unless}
use Rattle.refusal.proofs.Order.{unless_refused, unless_passed}

module _ {A B : Type 0} (a : A) (b : B) (xs ys : List Test) where
  pub handed_on : (e : Refusal) → Refuses (number_of e) (row_of e) ≡ unless xs a → Refuses (number_of e) (row_of e) ≡ unless (xs ++ ys) b
  handed_on e r = sym (unless_refused a b xs ys (number_of e) (row_of e) (sym r))

  pub others_decide : Answers a ≡ unless xs a → unless (xs ++ ys) b ≡ unless ys b
  others_decide r = unless_passed a b xs ys (sym r)

module _ {A B : Type 0} (a : A) (b : B) (xs : List Test) (t : Test) where
  -- one test behind the others
  pub last_fails : Answers a ≡ unless xs a → t.fails ≡ true → Refuses t.number t.row ≡ unless (xs ++ (t ∷ [])) b
  unfolding unless
  last_fails r f = sym (others_decide a b xs (t ∷ []) r ∙ rw f)

  pub last_passes : Answers a ≡ unless xs a → t.fails ≡ false → Answers b ≡ unless (xs ++ (t ∷ [])) b
  unfolding unless
  last_passes r f = sym (others_decide a b xs (t ∷ []) r ∙ rw f)

-- the error that a `?` hands on is the callee's
pub told_of : {A : Type 0} (r : Result A Refusal) (e : Refusal) → IsErrAnd r (λ x. x ≡ e) → reply_of r ≡ Refuses (number_of e) (row_of e)
told_of (Ok x) e none = absurd none
told_of (Err x) e same = rw same refl

pub told_with : {A B : Type 0} (f : A → B) (r : Result A Refusal) (e : Refusal) → IsErrAnd r (λ x. x ≡ e) → reply_with f r ≡ Refuses (number_of e) (row_of e)
told_with f (Ok x) e none = absurd none
told_with f (Err x) e same = rw same refl
