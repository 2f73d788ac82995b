-- A domain's own calls go by what it sees. Two states that agree there give the same reply and the same moves, and agree again afterwards.
use Prim.Native.Nat.{ℕ, ◌<◌}
use mathlib.Core.Bool.{true, false, ◌&&◌, true≢false, ◌||◌}
use mathlib.Core.List.{List, [], ◌∷◌, ◌++◌}
use mathlib.Core.Path.{◌≡◌, refl, sym, ap, ap₂, ◌∙◌}
use lib.Dec.{ltb, leb}
use lib.ListN.{length, set, length-set}
use lib.Seq.{get_or-set_same, get_or-set_other}
use borrow.Author.Tests.{ltb-false, leb-false}
use Rattle.lists.specs.Range.{head_or, is_empty}
use Rattle.lists.proofs.CaseSplits.{cases}
use Rattle.lists.proofs.Members.{Each}
use Rattle.refusal.specs.Reply.{Reply, Answers, Test, test, unless, passes}
use Rattle.refusal.proofs.Replies.{passed_first}
use Rattle.board.specs.declared.Board.{Board}
use Rattle.board.specs.Tests.{grant, empty_or_outside, bad_quotas}
use Rattle.board.proofs.PassedTests.{quotas_split, quota_placed}
use Rattle.calls.specs.Table.{State, word, word_of, mapped_to, strays}
use Rattle.calls.specs.FrameChoice.{choices}
use Rattle.calls.specs.Calls.{Freed, Active, Move, Done, settle, called, written, page_test, look_answer, fault_done, pair_up, move, move_all}
use Rattle.calls.specs.Calls.{look, fault, release, colours, recolour, set_quota}
use Rattle.calls.specs.TakeBack.{move_list, any_move, wrong_move, wrong_list, backward, restored, take_back}
use Rattle.calls.proofs.TakingBackDone.{list_fits}
use Rattle.isolation.specs.DomainRule.{Call, Look, Fault, Release, Colours, Recolour, SetQuota, TakeBack, names, outcome}
use Rattle.isolation.proofs.AcceptedBoard.{Live, at, with_table, with_set, with_limit, set_of, Inside, set_inside}
use Rattle.isolation.proofs.TestLists.{Meet, answered, unless_both, unless_two, called_two, small_page}
use Rattle.isolation.proofs.Invariant.{after_write, Inv, Good, good, Mine, known, MovesMine, moves_keep, recoloured}
use Rattle.isolation.proofs.DomainView.{SameWords, Agree}
use Rattle.isolation.proofs.CallSearches.{mapped_mine, choices_mine, strays_mine, same_mapped, same_held, same_choices, same_strays, same_word_test, same_free_test}
use Rattle.isolation.proofs.InvariantPreservation.{pairs_mine, back_mine}

module _ (b : Board) (t₀ : List ℕ) (d : ℕ) where
  -- the same write on both sides
  same_write : (t u : List ℕ) (f w : ℕ) → f < length t → f < length u → SameWords b d t u → SameWords b d (set t f w) (set u f w)
  same_write t u f w lt lu same g h own =
      after_write (λ (v : ℕ). v ≡ word (set u f w) g) t f w g lt
      (λ q. rw q (sym (get_or-set_same u f w 0 lu)))
      (λ q. same g h own ∙ sym (get_or-set_other u f g w 0 q))

  same_moves : (ms : List Move) (t u : List ℕ) → length t ≡ b.frames → length u ≡ b.frames → MovesMine b t₀ d ms → SameWords b d t u
      → SameWords b d (move_all t ms) (move_all u ms)
  unfolding move_all
  same_moves [] t u lt lu mine same = same
  same_moves (m ∷ ms) t u lt lu mine same =
      let v = m.source in
      let cleared = same_write t u v 0 (rw lt mine.0.below) (rw lu mine.0.below) same in
      same_moves ms (move t m) (move u m) (simp length-set lt) (simp length-set lu) mine.2
      (rw (← (same v mine.0.below mine.0.own))
      (same_write (set t v 0) (set u v 0) m.target (word t v)
      (rw (length-set t v 0, lt) mine.1.below) (rw (length-set u v 0, lu) mine.1.below) cleared))

  same_pairs : (t u vs gs : List ℕ) → Each (Mine b t₀ d) vs → SameWords b d t u → pair_up d t vs gs ≡ pair_up d u vs gs
  unfolding pair_up
  same_pairs t u [] gs mine same = refl
  same_pairs t u (v ∷ vs) [] mine same = refl
  same_pairs t u (v ∷ vs) (g ∷ gs) mine same = rw (same v mine.0.below mine.0.own, same_pairs t u vs gs mine.1 same)

module _ {b : Board} {t₀ : List ℕ} {d : ℕ} {x y : Live} (inv : Inv b t₀ x) (inv' : Inv b t₀ y) (sees : Agree b d (at b x) (at b y)) where
  abbrev Both : Reply Done → Reply Done → Type 0
  Both o q = Meet (Agree b d) (settle (at b x) o) (settle (at b y) q)

  -- a call under its tests, of which the first are the same on both sides
  under_all : (first us us' : List Test) (o q : Done)
      → (bad_quotas (at b y).board ≡ false → d < b.domains → passes first ≡ true → Both (unless us o) (unless us' q))
      → Meet (Agree b d) (called (at b x) d (first ++ us) o) (called (at b y) d (first ++ us') q)
  under_all = called_two (Agree b d) b x y sees inv.accepted inv'.accepted (inv.quotas ∙ sym inv'.quotas) d

  under : (first us us' : List Test) (o q : Done) → (d < b.domains → passes first ≡ true → Both (unless us o) (unless us' q))
      → Meet (Agree b d) (called (at b x) d (first ++ us) o) (called (at b y) d (first ++ us') q)
  under first us us' o q f = under_all first us us' o q (λ awake. f)

  pub look_meets : (p : ℕ) → Meet (Agree b d) (look (at b x) d p) (look (at b y) d p)
  unfolding look unless
  look_meets p =
      under (page_test p ∷ []) _ _ _ _ (λ below ok.
      answered (Agree b d) sees (ap look_answer (same_mapped inv inv' below sees.words p (small_page p [] ok).0)) refl sees)

  pub colours_meets : Meet (Agree b d) (colours (at b x) d) (colours (at b y) d)
  unfolding colours unless
  colours_meets = under [] _ _ _ _ (λ below ok. answered (Agree b d) sees (ap₂ Active sees.active sees.allowed) refl sees)

  same_free : d < b.domains → choices (at b x) d (set_of x d) ≡ choices (at b y) d (set_of y d)
  same_free below = rw (← sees.active) (same_choices inv inv' below sees.words (set_of x d) ((known inv).inside d below))

  wrote : (f w : ℕ) → Mine b t₀ d f → Agree b d (written (at b x) f w) (written (at b y) f w)
  wrote f w mine =
      record {
        active = sees.active;
        allowed = sees.allowed;
        words =
            same_write b t₀ d x.table y.table f w (rw (known inv).long mine.below) (rw (known inv').long mine.below) sees.words;
      }

  fault_done_lem : (w : ℕ) (ms gs : List ℕ) → Each (Mine b t₀ d) gs → (is_empty ms && is_empty gs) ≡ false
      → Both (Answers (fault_done (at b x) w ms gs)) (Answers (fault_done (at b y) w ms gs))
  fault_done_lem w (f ∷ ms) gs mine some = answered (Agree b d) sees refl refl sees
  fault_done_lem w [] [] mine some = absurd (true≢false some)
  fault_done_lem w [] (g ∷ gs) mine some = answered (Agree b d) sees refl refl (wrote g w mine.0)

  pub fault_meets : (p : ℕ) → Meet (Agree b d) (fault (at b x) d p) (fault (at b y) d p)
  unfolding fault
  fault_meets p =
      under (page_test p ∷ []) _ _ _ _ (λ below ok.
      rw (
        ← (same_mapped inv inv' below sees.words p (small_page p [] ok).0),
        ← (same_free below),
        ← sees.allowed,
        ← (same_held inv inv' below sees.words),
      )
      (unless_two (Agree b d) sees _ _ _ (λ some.
      fault_done_lem (word_of d p) (mapped_to (at b x) d p) (choices (at b x) d (set_of x d))
      (choices_mine inv below (set_of x d) ((known inv).inside d below)) (passed_first _ _ (passed_first _ _ some).1).0)))

  release_done : (ms : List ℕ) → Each (Mine b t₀ d) ms → is_empty ms ≡ false
      → Both (Answers (record { answer = Freed (head_or 0 ms); moves = []; next = written (at b x) (head_or 0 ms) 0 }))
      (Answers (record { answer = Freed (head_or 0 ms); moves = []; next = written (at b y) (head_or 0 ms) 0 }))
  release_done [] mine some = absurd (true≢false some)
  release_done (f ∷ ms) mine some = answered (Agree b d) sees refl refl (wrote f 0 mine.0)

  pub release_meets : (p : ℕ) → Meet (Agree b d) (release (at b x) d p) (release (at b y) d p)
  unfolding release
  release_meets p =
      under (page_test p ∷ []) _ _ _ _ (λ below ok.
      let small = (small_page p [] ok).0 in
      rw (← (same_mapped inv inv' below sees.words p small))
      (unless_two (Agree b d) sees _ _ _ (λ some.
      release_done (mapped_to (at b x) d p) (mapped_mine inv below p small) (passed_first _ _ some).0)))

  recolour_done : d < b.domains → (c : ℕ) (ms : List Move) → MovesMine b t₀ d ms
      → Agree b d (at b (with_set (with_table x (move_all x.table ms)) d c)) (at b (with_set (with_table y (move_all y.table ms)) d c))
  recolour_done below c ms mine =
      record {
        active = get_or-set_same x.active d c 0 ((known inv).placed d below) ∙ sym (get_or-set_same y.active d c 0 ((known inv').placed d below));
        allowed = sees.allowed;
        words = same_moves b t₀ d ms x.table y.table (known inv).long (known inv').long mine sees.words;
      }

  pub recolour_meets : (c : ℕ) (lent : List ℕ) → Meet (Agree b d) (recolour (at b x) d c lent) (recolour (at b y) d c lent)
  unfolding recolour
  recolour_meets c lent =
      let vs = strays (at b x) d c in
      let gs = choices (at b x) d c in
      under (test 9 (empty_or_outside (grant b d) c) ∷ []) _ _ _ _ (λ below ok.
      let inside = set_inside b d c (passed_first _ _ ok).0 in
      let stray = strays_mine inv below c in
      rw (
        ← (same_strays inv inv' below sees.words c),
        ← (same_choices inv inv' below sees.words c inside),
        ← (same_pairs b t₀ d x.table y.table vs gs stray sees.words),
      )
      (unless_two (Agree b d) sees _ _ _ (λ some.
      answered (Agree b d) sees refl refl
      (recolour_done below c (pair_up d x.table vs gs) (pairs_mine b t₀ d x.table vs gs stray (choices_mine inv below c inside))))))

  -- 31 has the same against a triple, and against a list, for a set inside the grant
  same_wrong : d < b.domains → (c : ℕ) → Inside b d c → (m : Move) → wrong_move (at b x) d c m ≡ wrong_move (at b y) d c m
  same_wrong below c inside m =
      cases (ltb 4095 m.page) (λ e. rw e) (λ small.
      cases (leb b.frames m.source) (λ e. rw (small, e)) (λ old_in.
      cases (leb b.frames m.target) (λ e. rw (small, old_in, e)) (λ new_in.
      rw (
        same_word_test inv inv' below sees.words m.page m.target (ltb-false _ _ small) (leb-false _ _ new_in),
        same_free_test inv inv' below sees.words c m.source inside (leb-false _ _ old_in),
      ))))

  same_wrongs : d < b.domains → (c : ℕ) → Inside b d c → (ms : List Move) → any_move (wrong_move (at b x) d c) ms ≡ any_move (wrong_move (at b y) d c) ms
  unfolding any_move
  same_wrongs below c inside [] = refl
  same_wrongs below c inside (m ∷ ms) = ap₂ ◌||◌ (same_wrong below c inside m) (same_wrongs below c inside ms)

  -- where it passes, the domain sees the same after the moves, so that 32 is the same too
  pub take_back_meets : (c : ℕ) (list : List ℕ) → Meet (Agree b d) (take_back (at b x) d c list) (take_back (at b y) d c list)
  unfolding take_back
  take_back_meets c list =
      let ms = backward (move_list list) in
      under (test 9 (empty_or_outside (grant b d) c) ∷ []) _ _ _ _ (λ below ok.
      let nine = (passed_first _ _ ok).0 in
      let inside = set_inside b d c nine in
      rw (← (same_wrongs below c inside (move_list list)))
      (unless_both (Agree b d) sees (test 31 (wrong_list (at b x) d c list) ∷ []) _ _ _ _ (λ right.
      let mine = back_mine inv d below c inside (move_list list) (list_fits (at b x) d c list (passed_first _ _ right).0).each in
      let after = recolour_done below c ms mine in
      let on_left = recoloured (moves_keep below x ms mine inv) d c below nine in
      let on_right = recoloured (moves_keep below y ms mine inv') d c below nine in
      let outside : strays (restored (at b x) d c list) d c ≡ strays (restored (at b y) d c list) d c =
      same_strays on_left on_right below after.words c in
      rw (← outside)
      (unless_two (Agree b d) sees _ _ _ (λ some. answered (Agree b d) sees refl refl after)))))

  quota_done : bad_quotas (at b y).board ≡ false → d < b.domains → (q : ℕ) → Agree b d (at b (with_limit x d q)) (at b (with_limit y d q))
  quota_done awake below q =
      let both : bad_quotas (at b x).board ≡ false = inv.quotas ∙ sym inv'.quotas ∙ awake in
      let at_x = quota_placed x.quotas d (quotas_split (at b x).board both d below) in
      let at_y = quota_placed y.quotas d (quotas_split (at b y).board awake d below) in
      record {
        active = sees.active;
        allowed = get_or-set_same x.quotas d q 0 at_x ∙ sym (get_or-set_same y.quotas d q 0 at_y);
        words = sees.words;
      }

  pub quota_meets : (q : ℕ) → Meet (Agree b d) (set_quota (at b x) d q) (set_quota (at b y) d q)
  unfolding set_quota
  quota_meets q =
      under_all [] _ _ _ _ (λ awake below ok.
      rw (← (same_held inv inv' below sees.words))
      (unless_two (Agree b d) sees _ _ _ (λ some. answered (Agree b d) sees refl refl (quota_done awake below q))))

pub call_meets : {b : Board} {t₀ : List ℕ} {d : ℕ} {s r : State} → Good b t₀ s → Good b t₀ r → Agree b d s r → (c : Call) → names c ≡ d
    → Meet (Agree b d) (outcome s c) (outcome r c)
call_meets (good inv) (good inv') sees (Look e p) q = rw q (look_meets inv inv' sees p)
call_meets (good inv) (good inv') sees (Fault e p) q = rw q (fault_meets inv inv' sees p)
call_meets (good inv) (good inv') sees (Release e p) q = rw q (release_meets inv inv' sees p)
call_meets (good inv) (good inv') sees (Colours e) q = rw q (colours_meets inv inv' sees)
call_meets (good inv) (good inv') sees (Recolour e c lent) q = rw q (recolour_meets inv inv' sees c lent)
call_meets (good inv) (good inv') sees (SetQuota e n) q = rw q (quota_meets inv inv' sees n)
call_meets (good inv) (good inv') sees (TakeBack e c list) q = rw q (take_back_meets inv inv' sees c list)
