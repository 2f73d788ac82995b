-- Lists of moves: what holds of each of them, and of each with each later one. The moves of a recolouring are chosen by old frame, and there is one for
-- each stray where there is a target for each.
use Prim.Native.Nat.{ℕ, zero, suc, ◌<◌, ◌≤◌}
use native.Mathlib.Omega.{arith}
use mathlib.Core.Bool.{Bool}
use mathlib.Core.List.{List, [], ◌∷◌}
use mathlib.Core.Path.{◌≡◌, refl, ap}
use lib.ListN.{length}
use Rattle.lists.specs.Range.{from, keep}
use Rattle.lists.proofs.CaseSplits.{cases}
use Rattle.lists.proofs.Members as members
use Rattle.lists.proofs.FilteredRange as filter
use Rattle.calls.specs.Table.{word, page_for}
use Rattle.calls.specs.Calls.{Move, pair_up}

abbrev pub EachMove : (Move → Type 0) → List Move → Type 0
EachMove P [] = Unit {0}
EachMove P (m ∷ ms) = P m × EachMove P ms

abbrev pub Sorted : (Move → Move → Type 0) → List Move → Type 0
Sorted R [] = Unit {0}
Sorted R (m ∷ ms) = EachMove (R m) ms × Sorted R ms

pub each_move_map : {P Q : Move → Type 0} → ((m : Move) → P m → Q m) → (ms : List Move) → EachMove P ms → EachMove Q ms
each_move_map f [] h = tt
each_move_map f (m ∷ ms) h = (f m h.0, each_move_map f ms h.1)

-- by old frame
abbrev pub Lower : Move → Move → Type 0
Lower a b = a.source < b.source

abbrev pub Rising : List Move → Type 0
Rising ms = Sorted Lower ms

-- as many moves as there are old frames, where there are no fewer new ones
pub pair_count : (d : ℕ) (t vs gs : List ℕ) → length vs ≤ length gs → length (pair_up d t vs gs) ≡ length vs
unfolding pair_up
pair_count d t [] gs h = refl
pair_count d t (v ∷ vs) [] h = omega (arith, h)
pair_count d t (v ∷ vs) (g ∷ gs) h = ap suc (pair_count d t vs gs (omega (arith, h)))

-- what a move has by its old frame
pub pair_each : (d : ℕ) (t : List ℕ) (P : Move → Type 0) (Q : ℕ → Type 0)
    → ((v g : ℕ) → Q v → P (record { page = page_for d (word t v); source = v; target = g }))
    → (vs gs : List ℕ) → members.Each Q vs → EachMove P (pair_up d t vs gs)
unfolding pair_up
pair_each d t P Q f [] gs h = tt
pair_each d t P Q f (v ∷ vs) [] h = tt
pair_each d t P Q f (v ∷ vs) (g ∷ gs) h = (f v g h.0, pair_each d t P Q f vs gs h.1)

-- and by both its frames
pub pair_both : (d : ℕ) (t : List ℕ) (P : Move → Type 0) (Q R : ℕ → Type 0)
    → ((v g : ℕ) → Q v → R g → P (record { page = page_for d (word t v); source = v; target = g }))
    → (vs gs : List ℕ) → members.Each Q vs → members.Each R gs → EachMove P (pair_up d t vs gs)
unfolding pair_up
pair_both d t P Q R f [] gs h k = tt
pair_both d t P Q R f (v ∷ vs) [] h k = tt
pair_both d t P Q R f (v ∷ vs) (g ∷ gs) h k = (f v g h.0 k.0, pair_both d t P Q R f vs gs h.1 k.1)

-- the old frames are those of a range that pass a test
module _ (q : ℕ → Bool) (d : ℕ) (t : List ℕ) where
  kept_above : (k i : ℕ) → members.Each (λ (v : ℕ). i < v) (keep q (from (suc i) k))
  unfolding keep from
  kept_above zero i = tt
  kept_above (suc k) i =
      let rest = filter.each_map (λ (v : ℕ). suc i < v) (λ (v : ℕ). i < v) (λ v l. omega arith) (keep q (from (suc (suc i)) k)) (kept_above k (suc i)) in
      cases (q (suc i)) (λ e. rw e (omega arith, rest)) (λ e. rw e rest)

  pub pair_rising : (k i : ℕ) (gs : List ℕ) → Rising (pair_up d t (keep q (from i k)) gs)
  unfolding keep from pair_up
  pair_rising zero i gs = tt
  pair_rising (suc k) i [] = cases (q i) (λ e. rw e tt) (λ e. rw e (pair_rising k (suc i) []))
  pair_rising (suc k) i (g ∷ gs) =
      let later = pair_each d t (λ (m : Move). i < m.source) (λ (v : ℕ). i < v) (λ v h l. l) (keep q (from (suc i) k)) gs (kept_above k i) in
      cases (q i) (λ e. rw e (later, pair_rising k (suc i) gs)) (λ e. rw e (pair_rising k (suc i) (g ∷ gs)))
