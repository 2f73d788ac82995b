-- Unwinding, over any machine with calls: where a relation of two states is kept by an own call on both sides, with the same told, and by
-- another's call on the left side alone, histories look the same to the domain exactly when its own calls, replayed alone, show the same
-- to some own calls that probe the state. It knows no frame call.
use Rattle.std.specs.Prelude.{if◌then◌else◌}
use mathlib.Core.Bool.{Bool, true, false}
use mathlib.Core.List.{List, [], ◌∷◌}
use mathlib.Core.Logic.{◌↔◌}
use mathlib.Core.Path.{◌≡◌, refl, sym, ◌∙◌}
use Rattle.lists.proofs.CaseSplits.{cases}

-- the state after a list of calls, its own calls, and what they are told
unfoldable pub runs : {S C : Type 0} → (S → C → S) → S → List C → S
runs next s [] = s
runs next s (c ∷ cs) = runs next (next s c) cs

unfoldable pub owns : {C : Type 0} → (C → Bool) → List C → List C
owns mine [] = []
owns mine (c ∷ cs) = let rest = owns mine cs in if mine c then c ∷ rest else rest

unfoldable pub heard : {S C A : Type 0} → (S → C → S) → (S → C → A) → (C → Bool) → S → List C → List A
heard next told mine s [] = []
heard next told mine s (c ∷ cs) = let rest = heard next told mine (next s c) cs in if mine c then told s c ∷ rest else rest

module _ {S C A : Type 0} (next : S → C → S) (told : S → C → A) (mine : C → Bool) (R : S → S → Type 0)
    (own_step : (s r : S) (c : C) → R s r → mine c ≡ true → (told s c ≡ told r c) × R (next s c) (next r c))
    (other_step : (s r : S) (c : C) → R s r → mine c ≡ false → R (next s c) r) where
  -- a list run from one state, and its own calls run from a related one, lead to related states
  pub meet : (l : List C) (s r : S) → R s r → R (runs next s l) (runs next r (owns mine l))
  unfolding runs owns
  meet [] s r h = h
  meet (c ∷ l) s r h =
      cases (mine c)
      (λ e. rw e (meet l (next s c) (next r c) (own_step s r c h e).1))
      (λ e. rw e (meet l (next s c) r (other_step s r c h e)))

  -- and the own calls are told the same
  pub alike : (l : List C) (s r : S) → R s r → heard next told mine s l ≡ heard next told mine r (owns mine l)
  unfolding heard owns
  alike [] s r h = refl
  alike (c ∷ l) s r h =
      cases (mine c)
      (λ e. let step = own_step s r c h e in simp (e, step.0, alike l (next s c) (next r c) step.1))
      (λ e. simp e (alike l (next s c) r (other_step s r c h e)))

  module _ (Shows : S → S → Type 0)
      (left : (s r : S) → R s r → R s s)
      (reveal : (s r s' r' : S) → R s s' → R r r' → Shows s' r' → R s r)
      (shown : (s r s' r' : S) → R s s' → R r r' → ((c : C) → mine c ≡ true → told s c ≡ told r c) → Shows s' r') where
    abbrev pub AlikeAfter : S → S → Type 0
    AlikeAfter s r = (l m : List C) → owns mine l ≡ owns mine m → heard next told mine s l ≡ heard next told mine r m

    -- a list of one own call tells what that call is told
    one_call : (s r : S) → AlikeAfter s r → (c : C) → mine c ≡ true → told s c ≡ told r c
    unfolding heard owns
    one_call s r h c e = cc (simp e at (h (c ∷ []) (c ∷ []) refl))

    related_alike : (s r : S) → R s r → R r r → AlikeAfter s r
    related_alike s r h g l m e = alike l s r h ∙ rw e (sym (alike m r r g))

    pub rule : (start : S) → R start start → (h k : List C)
        → AlikeAfter (runs next start h) (runs next start k)
        ↔ Shows (runs next start (owns mine h)) (runs next start (owns mine k))
    rule start g h k =
        let s = runs next start h in
        let r = runs next start k in
        let s' = runs next start (owns mine h) in
        let r' = runs next start (owns mine k) in
        let sh : R s s' = meet h start start g in
        let rk : R r r' = meet k start start g in
        (λ a. shown s r s' r' sh rk (one_call s r a), λ w. related_alike s r (reveal s r s' r' sh rk w) (left r r' rk))
