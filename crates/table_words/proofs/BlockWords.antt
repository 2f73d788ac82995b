-- Whether one of the words of a list is a given one, as a fold over them asks: it is what the definition asks of their places.
use Prim.Native.Nat.{ℕ, zero, suc}
use mathlib.Core.Bool.{Bool, true, false, ◌||◌}
use mathlib.Core.List.{List, [], ◌∷◌}
use mathlib.Core.Path.{◌≡◌, refl, sym, ap, ◌∙◌}
use lib.Dec.{eqb}
use lib.ListN.{length}
use Rattle.std.specs.List.{fold}
use Rattle.lists.specs.Range.{from, upto, any_of, is_at}

-- a test of numbers from the next one on
any_later : (p q : ℕ → Bool) (n i : ℕ) → ((k : ℕ) → p (suc k) ≡ q k) → any_of p (from (suc i) n) ≡ any_of q (from i n)
unfolding from
any_later p q zero i same = refl
any_later p q (suc n) i same = rw (same i) (ap (λ b. q i || b) (any_later p q n (suc i) same))

module _ (w : ℕ) where
  asked : (xs : List ℕ) (found : Bool) → fold (λ b x. b || eqb x w) found xs ≡ (found || any_of (is_at xs w) (upto (length xs)))
  unfolding from
  asked [] true = refl
  asked [] false = refl
  asked (x ∷ xs) true = asked xs true
  asked (x ∷ xs) false = asked xs (eqb x w) ∙ ap (λ b. eqb x w || b) (sym (any_later (is_at (x ∷ xs) w) (is_at xs w) (length xs) 0 (λ k. refl)))

  pub word_asked : (xs : List ℕ) → fold (λ b x. b || eqb x w) false xs ≡ any_of (is_at xs w) (upto (length xs))
  word_asked xs = asked xs false
