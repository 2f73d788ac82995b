-- Look and release on a table whose page tests pass, by the frame that the search finds: the lowest with the page's word.
use Prim.Native.Nat.{ℕ, ◌+◌, ◌%◌, ◌<◌, ◌≤◌}
use native.Mathlib.Omega.{arith}
use mathlib.Core.Bool.{Bool}
use mathlib.Core.List.{List, [], ◌∷◌}
use mathlib.Core.Path.{◌≡◌, sym, ap, ◌∙◌}
use lib.ListN.{length}
use Rattle.lists.specs.Range.{upto, keep, is_at, is_empty, head_or, lowest}
use Rattle.lists.proofs.PassingNumbers.{ahead}
use Rattle.lists.proofs.Searches.{kept_found, kept_missed}
use Rattle.refusal.specs.Reply.{Answers, test, unless}
use Rattle.board.specs.declared.Board.{Board}
use Rattle.calls.specs.Table.{State, state_of, word_of, frames_with, mapped_to, has_word}
use Rattle.calls.specs.Calls.{Outcome, Mapped, Unmapped, Freed, settle, only, written, look_answer, look, release}
use Rattle.frames.specs.Steps.{page_reply}
use Rattle.calls.proofs.CallTests.{refused, answered}
use Rattle.calls.proofs.PageWords.{word_fits}
use Rattle.frames.proofs.PageCallOutcome.{page_passed, page_accepted}

module _ (b : Board) (t : List ℕ) (d p : ℕ) (ok : page_reply b (length t) d p ≡ Answers tt) where
  abbrev s : State
  s = state_of b t

  abbrev n : ℕ
  n = length t

  abbrev has_word_lem : ℕ → Bool
  has_word_lem = has_word t (word_of d p)

  mapped_is : mapped_to s d p ≡ keep has_word_lem (upto n)
  unfolding mapped_to frames_with
  mapped_is = rw (page_accepted b n d p ok).0.bounds.long

  low : d < 8
  low = let a = (page_accepted b n d p ok).0 in omega (arith, a.bounds, a.caller)

  -- the word that the code looks for, and the lowest frame with it
  module _ (w f : ℕ) (word : w ≡ word_of d p % 65536) (is : f ≡ lowest (is_at t w) n) where
    held : f ≡ lowest has_word_lem n
    held = is ∙ ap (λ (x : ℕ). lowest (is_at t x) n) (word ∙ word_fits d p low (page_accepted b n d p ok).1)

    found : f < n → mapped_to s d p ≡ f ∷ ahead has_word_lem (f + 1) n
    found h = mapped_is ∙ kept_found has_word_lem n (omega (arith, held)) ∙ ap (λ (g : ℕ). g ∷ ahead has_word_lem (g + 1) n) (sym held)

    none : n ≤ f → mapped_to s d p ≡ []
    none h = mapped_is ∙ kept_missed has_word_lem n (omega (arith, held))

    pub look_mapped : f < n → look s d p ≡ answered s (Mapped f)
    unfolding look unless settle
    look_mapped h = page_passed s d [] (only s (look_answer (mapped_to s d p))) p ok ∙ ap (λ (fs : List ℕ). answered s (look_answer fs)) (found h)

    pub look_unmapped : n ≤ f → look s d p ≡ answered s Unmapped
    unfolding look unless settle
    look_unmapped h = page_passed s d [] (only s (look_answer (mapped_to s d p))) p ok ∙ ap (λ (fs : List ℕ). answered s (look_answer fs)) (none h)

    abbrev released : List ℕ → Outcome
    released fs =
        settle s (unless (test 14 (is_empty fs) ∷ []) (record { answer = Freed (head_or 0 fs); moves = []; next = written s (head_or 0 fs) 0 }))

    release_is : release s d p ≡ released (mapped_to s d p)
    unfolding release
    release_is =
        page_passed s d (test 14 (is_empty (mapped_to s d p)) ∷ [])
        (record { answer = Freed (head_or 0 (mapped_to s d p)); moves = []; next = written s (head_or 0 (mapped_to s d p)) 0 }) p ok

    pub release_mapped : f < n → release s d p ≡ record { reply = Answers (Freed f); moves = []; next = written s f 0 }
    unfolding unless settle
    release_mapped h = release_is ∙ ap released (found h)

    pub release_unmapped : n ≤ f → release s d p ≡ refused s 14 0
    unfolding unless settle
    release_unmapped h = release_is ∙ ap released (none h)
