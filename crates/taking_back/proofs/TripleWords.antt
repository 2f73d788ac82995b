-- The triples of a list, word by word: the k-th stands at words 3 k to 3 k + 2; and how many frames triples name.
use Prim.Native.Nat.{ℕ, suc, ◌+◌, ◌*◌, ◌<◌, ◌≤◌}
use native.Mathlib.Omega.{arith}
use mathlib.Core.List.{List, [], ◌∷◌}
use mathlib.Core.Path.{◌≡◌, refl, ap, ◌∙◌}
use lib.ListN.{length, get_or, drop, drop_of_length-le}
use lib.Seq.{drop-cons}
use Rattle.calls.specs.Calls.{Move}
use Rattle.calls.specs.TakeBack.{move_list, frames_named}
use Rattle.taking_back.specs.Triples.{move_at}

module _ (list : List ℕ) (k : ℕ) where
  pub next_triple : 3 * k + 2 < length list → move_list (drop (3 * k) list) ≡ move_at list k ∷ move_list (drop (3 * (k + 1)) list)
  unfolding move_list
  next_triple l =
      let one : suc (3 * k) ≡ 3 * k + 1 = omega arith in
      let two : suc (3 * k + 1) ≡ 3 * k + 2 = omega arith in
      let three : suc (3 * k + 2) ≡ 3 * (k + 1) = omega arith in
      let words : drop (3 * k) list ≡ get_or list (3 * k) 0 ∷ get_or list (3 * k + 1) 0 ∷ get_or list (3 * k + 2) 0 ∷ drop (3 * (k + 1)) list =
      drop-cons list (3 * k) 0 (omega arith)
      ∙ ap (λ (j : ℕ). get_or list (3 * k) 0 ∷ drop j list) one
      ∙ ap (λ (r : List ℕ). get_or list (3 * k) 0 ∷ r) (drop-cons list (3 * k + 1) 0 (omega arith))
      ∙ ap (λ (j : ℕ). get_or list (3 * k) 0 ∷ get_or list (3 * k + 1) 0 ∷ drop j list) two
      ∙ ap (λ (r : List ℕ). get_or list (3 * k) 0 ∷ get_or list (3 * k + 1) 0 ∷ r) (drop-cons list (3 * k + 2) 0 l)
      ∙ ap (λ (j : ℕ). get_or list (3 * k) 0 ∷ get_or list (3 * k + 1) 0 ∷ get_or list (3 * k + 2) 0 ∷ drop j list) three in
      rw words refl

  pub no_triple : length list ≤ 3 * k → move_list (drop (3 * k) list) ≡ []
  unfolding move_list
  no_triple l = rw (drop_of_length-le list {i = 3 * k} l)

-- two frames for each
pub named_count : (ms : List Move) → length (frames_named ms) ≡ 2 * length ms
unfolding frames_named
named_count [] = refl
named_count (m ∷ ms) = omega (arith, named_count ms)
