-- A fault that answers with a new frame: it is the first choice of the domain for its active set, on a board that has a colour, and the domain held
-- fewer frames than its quota. And a fault of an unmapped page below the quota, where one frame alone is free in the active set: it gets that one.
use Prim.Native.Nat.{ℕ, ◌<◌}
use native.Mathlib.Nat.{lt_irrefl}
use native.Mathlib.Omega.{arith}
use mathlib.Core.Bool.{false, ◌&&◌}
use mathlib.Core.List.{List, [], ◌∷◌, ◌++◌}
use mathlib.Core.Path.{◌≡◌, refl, sym, ap, ◌∙◌}
use lib.ListN.{length}
use borrow.Author.Tests.{leb-false, lt-leb}
use Rattle.lists.specs.Range.{is_empty, head_or}
use Rattle.refusal.specs.Reply.{Answers, Test, unless}
use Rattle.refusal.proofs.Replies.{passed_first}
use Rattle.refusal.proofs.Order.{passed_earlier, passed_later}
use Rattle.colours.proofs.Ranges.{count_range}
use Rattle.board.specs.Tests.{active_set, quota}
use Rattle.calls.specs.Table.{State, word_of, frames_held, frees, mapped_to}
use Rattle.calls.specs.FrameChoice.{choices}
use Rattle.calls.specs.Calls.{Done, Unmapped, New, settle, page_tests, only, look_answer, look, fault_done, at_quota, fault_tests, fault}
use Rattle.calls.proofs.CallTests.{settled_answers, ten_first, ten_passed, ten_accepted}
use Rattle.calls.proofs.ChoiceLaws.{only_choice, First, first}

-- the page has no frame, so that 28 and 12 have judged
judged : (s : State) (d w f : ℕ) (ms gs : List ℕ) → (fault_done s w ms gs).answer ≡ New f → (is_empty ms && at_quota s d) ≡ false → (is_empty ms && is_empty gs) ≡ false
    → (head_or 0 gs ≡ f) × (at_quota s d ≡ false) × (is_empty gs ≡ false)
judged s d w f [] gs e below some = (cc, below, some)
judged s d w f (m ∷ ms) gs e below some = let z : ◌≡◌ {A = ℕ} 0 1 = cc in absurd (lt_irrefl 0 (omega arith))

pub new_frame : (s : State) (d p f : ℕ) → (fault s d p).reply ≡ Answers (New f)
    → First s d (active_set s.board d) f × (frames_held s d < quota s.board d)
unfolding fault
new_frame s d p f e =
    let ms : List ℕ = mapped_to s d p in
    let gs : List ℕ = choices s d (active_set s.board d) in
    let own : List Test = fault_tests s d ms gs in
    let done : Done = fault_done s (word_of d p) ms gs in
    let tests : List Test = page_tests s.board (length s.table) d p in
    let r = settled_answers s done (tests ++ own) (New f) (sym (ap (λ o. o.reply) (ten_first s d p own done)) ∙ e) in
    let fine = (ten_accepted s.board (length s.table) d p (passed_earlier tests own r.0)).0 in
    let below = passed_first _ _ (passed_later tests own r.0) in
    let new = judged s d (word_of d p) f ms gs r.1 below.0 (passed_first _ _ below.1).0 in (
      rw (← new.0) (first s d (active_set s.board d) (count_range s.board.colours fine.passed.count).0 new.2),
      leb-false _ _ new.1,
    )

no_frame : (ms : List ℕ) → look_answer ms ≡ Unmapped → ms ≡ []
no_frame [] e = refl
no_frame (m ∷ ms) e = let z : ◌≡◌ {A = ℕ} 0 1 = cc in absurd (lt_irrefl 0 (omega arith))

pub only_frame : (s : State) (d p f : ℕ) → (look s d p).reply ≡ Answers Unmapped → frames_held s d < quota s.board d
    → frees s (active_set s.board d) ≡ f ∷ [] → (fault s d p).reply ≡ Answers (New f)
unfolding look fault unless settle
only_frame s d p f e below alone =
    let ms : List ℕ = mapped_to s d p in
    let gs : List ℕ = choices s d (active_set s.board d) in
    let done : Done = fault_done s (word_of d p) ms gs in
    let tests : List Test = page_tests s.board (length s.table) d p in
    let seen : Done = only s (look_answer ms) in
    let r = settled_answers s seen (tests ++ []) Unmapped (sym (ap (λ o. o.reply) (ten_first s d p [] seen)) ∙ e) in
    let passed = passed_earlier tests [] r.0 in
    let fine = (ten_accepted s.board (length s.table) d p passed).0 in
    let choice = only_choice s d (active_set s.board d) f (count_range s.board.colours fine.passed.count).0 alone in
    ap (λ o. o.reply) (ten_passed s d p (fault_tests s d ms gs) done passed)
    ∙ rw (no_frame ms r.1, lt-leb (quota s.board d) (frames_held s d) below, choice.0, choice.1) refl
