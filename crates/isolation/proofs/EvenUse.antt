-- Even use of colours: at the start nothing is held, calls of others leave what a domain sees alone, and of its own calls only a fault that takes a
-- new frame changes anything. That frame has a colour in which the domain holds the fewest, of those with a free frame.
use Prim.Native.Nat.{ℕ, ◌%◌, ◌<◌, ◌≤◌}
use native.Mathlib.Omega.{arith}
use mathlib.Core.Bool.{true, false, ◌&&◌, true≢false}
use mathlib.Core.List.{List, [], ◌∷◌}
use mathlib.Core.Path.{◌≡◌, refl, sym, ◌∙◌}
use lib.Dec.{eqb}
use lib.ListN.{length, set}
use lib.Seq.{get_or-set_other}
use borrow.Author.Tests.{eqb-true, eqb-false}
use Rattle.lists.specs.Range.{head_or, is_empty}
use Rattle.lists.proofs.CaseSplits.{cases}
use Rattle.refusal.specs.Reply.{Answers, Test, unless, passes}
use Rattle.refusal.proofs.Replies.{passed_first}
use Rattle.board.specs.declared.Board.{Board}
use Rattle.board.specs.Tests.{active_set}
use Rattle.calls.specs.Table.{State, word, word_of, is_of, has_word, is_held, mapped_to}
use Rattle.calls.specs.FrameChoice.{choices}
use Rattle.calls.specs.Calls.{Done, settle, called, written, look, fault_done, fault, release, colours, recolour, set_quota}
use Rattle.calls.specs.TakeBack.{take_back}
use Rattle.calls.proofs.PageWords.{page_word}
use Rattle.calls.proofs.ColourCounts.{none_counts, same_count, no_fewer_count, one_fewer_count}
use Rattle.calls.proofs.ChoiceLaws.{First, first}
use Rattle.isolation.specs.DomainRule.{Call, Look, Fault, Release, Colours, Recolour, SetQuota, TakeBack, names, outcome, run, Accepted, Empty}
use Rattle.isolation.specs.EvenUse.{freed_or_moved, KeptAll, is_active, free_in, held_in, Even, EvenUse}
use Rattle.isolation.proofs.AcceptedBoard.{Live, at, set_of}
use Rattle.isolation.proofs.TestLists.{unless_any, called_one, small_page}
use Rattle.isolation.proofs.Invariant.{after_write, Inv, Good, good, known}
use Rattle.isolation.proofs.DomainView.{Agree}
use Rattle.isolation.proofs.InvariantPreservation.{call_keeps}
use Rattle.isolation.proofs.Rule.{start_good, none_held}

-- at the start nothing is held
start_even : (s : State) → Accepted s → Empty s → (d : ℕ) → d < s.board.domains → Even d s
start_even s ok empty d below x y ax ay some =
    let none : held_in s d y ≡ 0 = none_counts s.board.colours s.board.frames (is_held s.table d) y (none_held s ok empty d below) in
    omega (arith, none)

-- what a domain sees has the counts of its active colours
agree_even : {b : Board} {t₀ : List ℕ} {d : ℕ} {s r : State} → d < b.domains → Good b t₀ s → Good b t₀ r → Agree b d r s → Even d s → Even d r
agree_even {b} {t₀} {d} below (good {x = u} inv) (good {x = v} inv') sees even x y ax ay some =
    let same : (z : ℕ) → is_active (at b v) d z ≡ true → (f : ℕ) → f < b.frames → f % b.colours ≡ z → word v.table f ≡ word u.table f =
    λ z az f l e. sees.words f l (rw e ((known inv').inside d below z az)) in
    let held : (z : ℕ) → is_active (at b v) d z ≡ true → held_in (at b v) d z ≡ held_in (at b u) d z =
    λ z az. same_count b.colours b.frames (is_held v.table d) (is_held u.table d) z (λ f l e. rw (same z az f l e)) in
    let free : free_in (at b v) x ≡ free_in (at b u) x =
    same_count b.colours b.frames (has_word v.table 0) (has_word u.table 0) x (λ f l e. rw (same x ax f l e)) in
    rw (held x ax, held y ay) (even x y (rw (← sees.active) ax) (rw (← sees.active) ay) (rw free at some))

-- A free frame g gets a word of domain d: whatever is free now was free, and whatever was held still is
module _ (t : List ℕ) (d g w : ℕ) (here : g < length t) where
  was_free : word t g ≡ 0 → (f : ℕ) → has_word (set t g w) 0 f ≡ true → has_word t 0 f ≡ true
  was_free z f = after_write (λ (v : ℕ). eqb v 0 ≡ true → has_word t 0 f ≡ true) t g w f here (λ q _. rw (q, z)) (λ _ e. e)

  still_held : is_of d w ≡ true → (f : ℕ) → is_held t d f ≡ true → is_held (set t g w) d f ≡ true
  still_held own f e = after_write (λ (v : ℕ). is_of d v ≡ true) t g w f here (λ _. own) (λ _. e)

-- The first choice of a domain gets a word of it. In the frame's colour it held no more than in x, and holds one more now at most; in every other
-- colour it holds what it held
wrote_even : (s : State) (d g w : ℕ) → length s.table ≡ s.board.frames → First s d (active_set s.board d) g → is_of d w ≡ true → Even d s
    → Even d (written s g w)
wrote_even s d g w long r own even x y ax ay some =
    let n : ℕ = s.board.colours in
    let m : ℕ = s.board.frames in
    let t : List ℕ = s.table in
    let t' : List ℕ = set t g w in
    let here : g < length t = rw long r.choice.below in
    let free : free_in (written s g w) x ≤ free_in s x = no_fewer_count n m (has_word t' 0) (has_word t 0) x (was_free t d g w here r.choice.free) in
    let held : held_in s d x ≤ held_in (written s g w) d x = no_fewer_count n m (is_held t d) (is_held t' d) x (still_held t d g w here own) in
    let other : (f : ℕ) → (f ≡ g → ⊥) → is_held t' d f ≡ is_held t d f = λ f z. rw (get_or-set_other t g f w 0 z) in
    let had : 0 < free_in s x = omega arith in
    cases (eqb (g % n) y)
    (λ e. omega (arith, one_fewer_count n m (is_held t' d) (is_held t d) y g other, rw (eqb-true (g % n) y e) at (r.least x ax had)))
    (λ e.
    let same = same_count n m (is_held t' d) (is_held t d) y (λ f l q. other f (λ z. eqb-false (g % n) y e (rw (← z) q))) in
    omega (arith, same, even x y ax ay had))

-- a release, a recolouring or a taking back was done, or its reply is a refusal
refused_even : (s : State) (d : ℕ) (ts : List Test) (done : Done) → freed_or_moved (Answers done.answer) ≡ true
    → freed_or_moved (settle s (unless ts done)).reply ≡ false → Even d s → Even d (settle s (unless ts done)).next
unfolding settle
refused_even s d ts done gives undone even =
    unless_any (λ o. freed_or_moved o.reply ≡ false → Even d o.next) s (λ n r no. even) ts done
    (λ p no. absurd (true≢false (sym gives ∙ no))) undone

-- the domain's own calls
module _ {b : Board} {t₀ : List ℕ} {x : Live} (inv : Inv b t₀ x) (d : ℕ) (even : Even d (at b x)) where
  under : (own : List Test) (done : Done) → (passes own ≡ true → Even d done.next) → Even d (called (at b x) d own done).next
  under own done f = called_one (Even d) (at b x) even inv.accepted d own done (λ awake below. f)

  look_even : (p : ℕ) → Even d (look (at b x) d p).next
  unfolding look
  look_even p = under _ _ (λ ok. even)

  colours_even : Even d (colours (at b x) d).next
  unfolding colours
  colours_even = under _ _ (λ ok. even)

  fault_done_lem : (p : ℕ) → p ≤ 4095 → (ms gs : List ℕ) → (is_empty gs ≡ false → First (at b x) d (set_of x d) (head_or 0 gs))
      → (is_empty ms && is_empty gs) ≡ false → Even d (fault_done (at b x) (word_of d p) ms gs).next
  fault_done_lem p small (f ∷ ms) gs r some = even
  fault_done_lem p small [] gs r some =
      wrote_even (at b x) d (head_or 0 gs) (word_of d p) (known inv).long (r some)
      (page_word d p small) even

  fault_even : (p : ℕ) → Even d (fault (at b x) d p).next
  unfolding fault
  fault_even p =
      under _ _ (λ ok.
      let r = small_page p _ ok in
      fault_done_lem p r.0 (mapped_to (at b x) d p) (choices (at b x) d (set_of x d)) (first (at b x) d (set_of x d) (known inv).coloured)
      (passed_first _ _ (passed_first _ _ r.1).1).0)

  release_even : (p : ℕ) → freed_or_moved (release (at b x) d p).reply ≡ false → Even d (release (at b x) d p).next
  unfolding release called
  release_even p undone = refused_even (at b x) d _ _ refl undone even

  recolour_even : (c : ℕ) (lent : List ℕ) → freed_or_moved (recolour (at b x) d c lent).reply ≡ false → Even d (recolour (at b x) d c lent).next
  unfolding recolour called
  recolour_even c lent undone = refused_even (at b x) d _ _ refl undone even

  take_back_even : (c : ℕ) (list : List ℕ) → freed_or_moved (take_back (at b x) d c list).reply ≡ false → Even d (take_back (at b x) d c list).next
  unfolding take_back called
  take_back_even c list undone = refused_even (at b x) d _ _ refl undone even

  quota_even : (q : ℕ) → Even d (set_quota (at b x) d q).next
  unfolding set_quota
  quota_even q = under _ _ (λ ok. even)

own_even : {b : Board} {t₀ : List ℕ} {s : State} → Good b t₀ s → (c : Call) → Even (names c) s → freed_or_moved (outcome s c).reply ≡ false
    → Even (names c) (outcome s c).next
own_even (good inv) (Look d p) even undone = look_even inv d even p
own_even (good inv) (Fault d p) even undone = fault_even inv d even p
own_even (good inv) (Release d p) even undone = release_even inv d even p undone
own_even (good inv) (Colours d) even undone = colours_even inv d even
own_even (good inv) (Recolour d c lent) even undone = recolour_even inv d even c lent undone
own_even (good inv) (SetQuota d q) even undone = quota_even inv d even q
own_even (good inv) (TakeBack d c list) even undone = take_back_even inv d even c list undone

-- each call, whosever it is, and so each history
module _ {b : Board} {t₀ : List ℕ} {d : ℕ} (below : d < b.domains) where
  call_even : (s : State) → Good b t₀ s → Even d s → (c : Call) → (names c ≡ d → freed_or_moved (outcome s c).reply ≡ false)
      → Even d (outcome s c).next
  call_even s g even c undone =
      let kept = call_keeps g c in
      cases (eqb (names c) d)
      (λ e. let q = eqb-true (names c) d e in rw (← q) (own_even g c (rw q even) (undone q)))
      (λ e. agree_even below g kept.good_next (kept.others d below (eqb-false (names c) d e)) even)

  history_even : (s : State) → Good b t₀ s → Even d s → (h : List Call) → KeptAll d s h → Even d (run s h)
  unfolding run
  history_even s g even [] k = even
  history_even s g even (c ∷ cs) k =
      history_even (outcome s c).next (call_keeps g c).good_next (call_even s g even c k.0) cs k.1

pub even_use : EvenUse
even_use start ok empty d below h k =
    history_even below start (start_good start ok empty) (start_even start ok empty d below) h k
