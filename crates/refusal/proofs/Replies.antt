-- What it means that a call answers: none of its tests fails, and conversely.
use mathlib.Core.Bool.{true, false, not}
use mathlib.Core.List.{List, [], ◌∷◌}
use mathlib.Core.Path.{◌≡◌, refl}
use borrow.Author.Tests.{not-true}
use Rattle.lists.proofs.CaseSplits.{cases, and_both}
use Rattle.refusal.specs.Reply.{Answers, Test, unless, passes}

-- where no test fails, the first does not, and none of the others
pub passed_first : (t : Test) (ts : List Test) → passes (t ∷ ts) ≡ true → (t.fails ≡ false) × (passes ts ≡ true)
unfolding passes
passed_first t ts e = let both = and_both (not t.fails) (passes ts) e in (not-true t.fails both.0, both.1)

module _ {A : Type 0} where
  pub passed_answers : (ts : List Test) (a : A) → passes ts ≡ true → unless ts a ≡ Answers a
  unfolding unless passes
  passed_answers [] a e = refl
  passed_answers (t ∷ ts) a e =
      cases t.fails (λ f. cc (rw f at e)) (λ f. rw f (passed_answers ts a (rw f at e)))

  pub answers_passed : (ts : List Test) (a b : A) → unless ts a ≡ Answers b → (passes ts ≡ true) × (a ≡ b)
  unfolding unless passes
  answers_passed [] a b e = (refl, cc)
  answers_passed (t ∷ ts) a b e =
      cases t.fails (λ f. (cc (rw f at e), cc (rw f at e))) (λ f. rw f (answers_passed ts a b (rw f at e)))
