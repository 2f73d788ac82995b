-- Sixteen frames at a time: where none of them passes a test, and so where none has a word, they may be passed over.
use Rattle.std.proofs.Common.{◌≡◌, ℕ, ◌+◌, ◌-◌, ◌<◌, ◌≤◌, Bool, false, List, length, get_or, sym, ap, ◌∙◌, arith}
use lib.Dec.{eqb}
use lib.ListN.{take, drop}
use lib.Seq.{length-take-le}
use Rattle.std.proofs.lemmas.List.{get_or-take, get_or-drop, length-drop}
use Rattle.lists.specs.Range.{upto, any_of, is_at, lowest_from}
use Rattle.lists.proofs.Searches.{any_none, none_any, sought_past}

pub block_missed : (p : ℕ → Bool) (s n : ℕ) → s + 16 ≤ n → any_of (λ (i : ℕ). p (s + i)) (upto 16) ≡ false → lowest_from p s n ≡ lowest_from p (s + 16) n
block_missed p s n l e =
    sought_past p s (s + 16) n (omega arith) l
    (λ m low high. let same : m ≡ s + (m - s) = omega arith in rw same (any_none (λ (i : ℕ). p (s + i)) 16 (m - s) e (omega arith)))

module _ (t : List ℕ) (w s : ℕ) (within : s + 16 ≤ length t) where
  abbrev block : List ℕ
  block = take (s + 16 - s) (drop s t)

  size : length block ≡ 16
  size = length-take-le (s + 16 - s) (drop s t) (omega (arith, length-drop s t)) ∙ omega arith

  pub word_missed : any_of (is_at block w) (upto (length block)) ≡ false → lowest_from (is_at t w) s (length t) ≡ lowest_from (is_at t w) (s + 16) (length t)
  word_missed e =
      block_missed (is_at t w) s (length t) within
      (none_any (λ (i : ℕ). is_at t w (s + i)) 16
      (λ i l. ap (λ x. eqb x w) (sym (entry i l)) ∙ any_none (is_at block w) (length block) i e (omega (arith, size))))
    where
      entry : (i : ℕ) → i < 16 → get_or block i 0 ≡ get_or t (s + i) 0
      entry i l = get_or-take (s + 16 - s) (drop s t) i 0 (omega arith) ∙ get_or-drop s t i 0
