-- What a call does to the number of frames that a domain holds, whosever call it is and on any board and table: a fault of the domain that is answered new adds
-- one, an accepted release takes one away, and no other call or reply counts. So the log of a history, from any state, tells what has changed.
use Prim.Native.Nat.{ℕ, ◌+◌, ◌<◌, ◌≤◌}
use native.Mathlib.Omega.{arith}
use mathlib.Core.Bool.{Bool, true, false, ◌&&◌, and-true}
use mathlib.Core.List.{List, [], ◌∷◌}
use mathlib.Core.Path.{◌≡◌, refl, ap}
use lib.Dec.{eqb}
use lib.ListN.{length}
use borrow.Author.Tests.{eqb-true}
use Rattle.lists.specs.Range.{head_or, is_empty}
use Rattle.lists.proofs.CaseSplits.{cases, and_never}
use Rattle.lists.proofs.Members.{Each, head_has}
use Rattle.refusal.specs.Reply.{Reply, Answers, Test, passes}
use Rattle.refusal.proofs.Replies.{passed_first}
use Rattle.colours.proofs.Ranges.{count_range}
use Rattle.board.specs.Tests.{active_set}
use Rattle.board.proofs.PassedTests.{CallAccepted}
use Rattle.calls.specs.Table.{State, state_of, word, word_of, has_word, frames_with, frames_held, mapped_to}
use Rattle.calls.specs.FrameChoice.{choices}
use Rattle.calls.specs.Calls.{Answer, Freed, Move, Done, Outcome, settle, called, only, written, look_answer, fault_done, pairs, move_all, with_active}
use Rattle.calls.specs.Calls.{look, fault, release, colours, recolour, set_quota}
use Rattle.calls.specs.TakeBack.{move_list, backward, take_back}
use Rattle.calls.proofs.PageWords.{free_word, whose_word}
use Rattle.calls.proofs.ChoiceLaws.{Chosen, chosen}
use Rattle.calls.proofs.Moves as triples
use Rattle.calls.proofs.AnyOrder.{Apart, pairs_lead, pairs_apart}
use Rattle.calls.proofs.TakingBackDone.{Fits, list_fits}
use Rattle.calls.proofs.Undoing.{once_apart}
use Rattle.isolation.specs.DomainRule.{Call, Look, Fault, Release, Colours, Recolour, SetQuota, TakeBack, names, outcome, run, Told, told, answers}
use Rattle.isolation.specs.Kinds.{is_new, is_freed, is_accepted, is_fault, is_release}
use Rattle.isolation.specs.Accounts.{how_many, HeldSince}
use Rattle.isolation.proofs.AcceptedBoard.{live}
use Rattle.isolation.proofs.TestLists.{called_any, small_page}
use Rattle.isolation.proofs.CallSearches.{mapped}
use Rattle.isolation.proofs.Holding.{one, Vacant, write_held, moves_held}

-- A call of domain e in s, and what it comes to, as to the frames that d holds
abbrev pub Balanced : ℕ → ℕ → State → Outcome → Type 0
Balanced d e s o = frames_held o.next d + one (is_freed o.reply && eqb e d) ≡ frames_held s d + one (is_new o.reply && eqb e d)

module _ (d e : ℕ) (s : State) where
  under : (own : List Test) (done : Done) → (CallAccepted s.board (length s.table) e → passes own ≡ true → Balanced d e s (settle s (Answers done)))
      → Balanced d e s (called s e own done)
  unfolding settle
  under = called_any (Balanced d e s) s (λ n r. refl) e

  look_done : (ms : List ℕ) → Balanced d e s (settle s (Answers (only s (look_answer ms))))
  unfolding settle
  look_done [] = refl
  look_done (f ∷ ms) = refl

  -- a frame that was free gets a word of e
  fault_done_lem : (p : ℕ) (ms gs : List ℕ) → p ≤ 4095 → length s.table ≡ s.board.frames → Each (Chosen s (active_set s.board e)) gs
      → (is_empty ms && is_empty gs) ≡ false
      → Balanced d e s (settle s (Answers (fault_done s (word_of e p) ms gs)))
  unfolding settle frames_held frames_with
  fault_done_lem p (f ∷ ms) gs small long all some = refl
  fault_done_lem p [] gs small long all some =
      let k = head_has (Chosen s (active_set s.board e)) gs all some in
      let counts = write_held d s.board.frames s.table (head_or 0 gs) (word_of e p) long k.below in
      omega (arith, rw (k.free, free_word d, whose_word d e p small) at counts)

  -- and one that had such a word is free
  release_done : (p f : ℕ) → p ≤ 4095 → length s.table ≡ s.board.frames → (f < s.board.frames) × (has_word s.table (word_of e p) f ≡ true)
      → Balanced d e s (settle s (Answers (record { answer = Freed f; moves = []; next = written s f 0 })))
  unfolding settle frames_held frames_with
  release_done p f small long k =
      let counts = write_held d s.board.frames s.table f 0 long k.0 in
      omega (arith, rw (eqb-true (word s.table f) (word_of e p) k.1, free_word d, whose_word d e p small) at counts)

  -- moves count for nothing
  moved : (c : ℕ) (ms : List Move) → length s.table ≡ s.board.frames → triples.EachMove (Vacant s.table) ms → triples.Sorted Apart ms
      → frames_held (state_of (with_active s.board e c) (move_all s.table ms)) d + 0 ≡ frames_held s d + 0
  unfolding frames_held frames_with
  moved c ms long vacant apart = ap (λ (n : ℕ). n + 0) (moves_held d s.board.frames ms s.table long vacant apart)

  back_vacant : (c : ℕ) (ms : List Move) → length s.table ≡ s.board.frames → triples.EachMove (Fits s e c) ms → triples.EachMove (Vacant s.table) (backward ms)
  unfolding backward
  back_vacant c [] long fits = tt
  back_vacant c (m ∷ ms) long fits =
      let k = fits.0 in (
        record { from_frame = rw long k.new_below; to_frame = rw long k.old_below; free = k.free },
        back_vacant c ms long fits.1,
      )

pub call_balanced : (d : ℕ) (s : State) (c : Call) → Balanced d (names c) s (outcome s c)
unfolding look fault release colours recolour set_quota take_back settle frames_held frames_with
call_balanced d s (Look e p) = under d e s _ _ (λ fine ok. look_done d e s (mapped_to s e p))
call_balanced d s (Fault e p) =
    let c : ℕ = active_set s.board e in
    under d e s _ _ (λ fine ok.
    let r = small_page p _ ok in
    fault_done_lem d e s p (mapped_to s e p) (choices s e c) r.0 fine.bounds.long (chosen s e c (count_range s.board.colours fine.passed.count).0)
    (passed_first _ _ (passed_first _ _ r.1).1).0)
call_balanced d s (Release e p) =
    under d e s _ _ (λ fine ok.
    let r = small_page p _ ok in
    release_done d e s p (head_or 0 (mapped_to s e p)) r.0 fine.bounds.long (head_has _ (mapped_to s e p) (mapped s.board (live s) e p) (passed_first _ _ r.1).0))
call_balanced d s (Colours e) = under d e s _ _ (λ fine ok. refl)
call_balanced d s (Recolour e c lent) =
    under d e s _ _ (λ fine ok.
    let coloured = (count_range s.board.colours fine.passed.count).0 in
    let long = fine.bounds.long in
    let vacant = triples.each_move_map (λ m k. record { from_frame = rw long k.from_frame; to_frame = rw long k.to_frame; free = k.free }) (pairs s e c) (pairs_lead s e c coloured) in
    moved d e s c (pairs s e c) long vacant (pairs_apart s e c coloured))
call_balanced d s (SetQuota e q) = under d e s _ _ (λ fine ok. refl)
call_balanced d s (TakeBack e c list) =
    under d e s _ _ (λ fine ok.
    let fits = list_fits s e c list (passed_first _ _ (passed_first _ _ ok).1).0 in
    let long = fine.bounds.long in
    moved d e s c (backward (move_list list)) long (back_vacant d e s c (move_list list) long fits.each) (once_apart (move_list list) fits.apart))

-- A reply new is a fault's, a reply freed a release's, and of a release every answer is freed
abbrev Tied : ℕ → Call → Outcome → Type 0
Tied d c o =
    ((is_fault d c && is_new o.reply) ≡ (is_new o.reply && eqb (names c) d))
    × ((is_release d c && is_accepted o.reply) ≡ (is_freed o.reply && eqb (names c) d))

module _ (d e p : ℕ) (s : State) where
  look_tied : (ms : List ℕ) → Tied d (Look e p) (settle s (Answers (only s (look_answer ms))))
  unfolding settle
  look_tied [] = (refl, refl)
  look_tied (f ∷ ms) = (refl, refl)

  fault_tied : (w : ℕ) (ms gs : List ℕ) → Tied d (Fault e p) (settle s (Answers (fault_done s w ms gs)))
  unfolding settle
  fault_tied w (f ∷ ms) gs = (and_never (eqb e d), refl)
  fault_tied w [] gs = (and-true (eqb e d), refl)

tied_under : (d : ℕ) (s : State) (c : Call) (e : ℕ) (own : List Test) (done : Done) → Tied d c (settle s (Answers done)) → Tied d c (called s e own done)
unfolding settle
tied_under d s c e own done f =
    called_any (Tied d c) s (λ n r. (and_never (is_fault d c), and_never (is_release d c))) e own done (λ fine ok. f)

pub tied : (d : ℕ) (s : State) (c : Call) → Tied d c (outcome s c)
unfolding look fault release colours recolour set_quota take_back settle
tied d s (Look e p) = tied_under d s (Look e p) e _ _ (look_tied d e p s (mapped_to s e p))
tied d s (Fault e p) = tied_under d s (Fault e p) e _ _ (fault_tied d e p s (word_of e p) (mapped_to s e p) (choices s e (active_set s.board e)))
tied d s (Release e p) = tied_under d s (Release e p) e _ _ (refl, and-true (eqb e d))
tied d s (Colours e) = tied_under d s (Colours e) e _ _ (refl, refl)
tied d s (Recolour e c lent) = tied_under d s (Recolour e c lent) e _ _ (refl, refl)
tied d s (SetQuota e q) = tied_under d s (SetQuota e q) e _ _ (refl, refl)
tied d s (TakeBack e c list) = tied_under d s (TakeBack e c list) e _ _ (refl, refl)

-- so a call adds a frame at most where it is a fault of the domain that is answered new
pub no_more_held : (d : ℕ) (s : State) (c : Call) → frames_held (outcome s c).next d ≤ frames_held s d + one (is_fault d c && is_new (outcome s c).reply)
no_more_held d s c = rw (tied d s c).0 (omega (arith, call_balanced d s c))

-- one entry more
pub one_entry : {A : Type 0} (p : A → Bool) (x : A) (xs : List A) → how_many p (x ∷ xs) ≡ one (p x) + how_many p xs
unfolding how_many
one_entry p x xs = cases (p x) (λ e. rw e (omega arith)) (λ e. rw e (omega arith))

-- a test of replies, over the log of one call more
pub one_call : (p : Reply Answer → Bool) (d : ℕ) (s : State) (c : Call) (cs : List Call)
    → how_many (λ t. p t.reply) (answers d s (c ∷ cs))
    ≡ one (p (outcome s c).reply && eqb (names c) d) + how_many (λ t. p t.reply) (answers d (outcome s c).next cs)
unfolding answers
one_call p d s c cs =
    let rest : List Told = answers d (outcome s c).next cs in
    cases (eqb (names c) d)
    (λ o. rw (o, and-true (p (outcome s c).reply)) (one_entry (λ (t : Told). p t.reply) (told s c) rest))
    (λ o. rw (o, and_never (p (outcome s c).reply)) (omega arith))

pub held_since : HeldSince
unfolding run answers how_many
held_since s d [] = refl
held_since s d (c ∷ cs) =
    let n : State = (outcome s c).next in
    omega (arith, call_balanced d s c, held_since n d cs, one_call is_new d s c cs, one_call is_freed d s c cs)
