-- Each call keeps the invariant, and whatever every other domain sees.
use Prim.Native.Nat.{ℕ, ◌%◌, ◌<◌, ◌≤◌}
use mathlib.Core.Bool.{true, false, ◌&&◌, true≢false}
use mathlib.Core.List.{List, [], ◌∷◌}
use mathlib.Core.Logic.{inl, inr}
use mathlib.Core.Path.{◌≡◌, refl, sym, ◌∙◌}
use lib.ListN.{set}
use lib.Seq.{get_or-set_other}
use Rattle.lists.specs.Range.{head_or, is_empty}
use Rattle.lists.proofs.CaseSplits.{neither}
use Rattle.lists.proofs.Members.{Each}
use Rattle.refusal.specs.Reply.{Test, passes}
use Rattle.refusal.proofs.Replies.{passed_first}
use Rattle.board.specs.declared.Board.{Board}
use Rattle.board.specs.Tests.{grant, empty_or_outside, no_quota, bad_quotas}
use Rattle.calls.specs.Table.{State, word, word_of, mapped_to, strays}
use Rattle.calls.specs.FrameChoice.{choices}
use Rattle.calls.specs.Calls.{Move, Done, called, written, page_test, look, fault_done, fault, release, colours, pair_up, move, move_all, recolour, set_quota}
use Rattle.calls.specs.TakeBack.{move_list, backward, take_back}
use Rattle.calls.proofs.Moves as triples
use Rattle.calls.proofs.TakingBackDone.{Fits, list_fits}
use Rattle.isolation.specs.DomainRule.{Call, Look, Fault, Release, Colours, Recolour, SetQuota, TakeBack, names, outcome}
use Rattle.isolation.proofs.AcceptedBoard.{Live, at, with_table, with_set, set_of, Inside, set_inside}
use Rattle.isolation.proofs.TestLists.{called_one, small_page}
use Rattle.isolation.proofs.Invariant.{granted, Inv, Good, good, Mine, Fresh, known, put, MovesMine, moves_keep, recoloured, allowed}
use Rattle.isolation.proofs.DomainView.{Agree, agree_self}
use Rattle.isolation.proofs.CallSearches.{own_frame, free_frame, mapped_mine, choices_mine, strays_mine, unmapped}

-- n is s after a call of domain e: it has the invariant, and every other domain sees the same
pub record Preserved (b : Board) (t₀ : List ℕ) (e : ℕ) (s n : State) : Type 0 where
  pub good_next : Good b t₀ n
  pub others : (d : ℕ) → d < b.domains → (e ≡ d → ⊥) → Agree b d n s

pub pairs_mine : (b : Board) (t₀ : List ℕ) (e : ℕ) (t vs gs : List ℕ) → Each (Mine b t₀ e) vs → Each (Mine b t₀ e) gs
    → MovesMine b t₀ e (pair_up e t vs gs)
unfolding pair_up
pairs_mine b t₀ e t [] gs mv mg = tt
pairs_mine b t₀ e t (v ∷ vs) [] mv mg = tt
pairs_mine b t₀ e t (v ∷ vs) (g ∷ gs) mv mg = (mv.0, mg.0, pairs_mine b t₀ e t vs gs mv.1 mg.1)

-- moves between frames of e's leave the word of any other
moves_elsewhere : {b : Board} {t₀ : List ℕ} {e : ℕ} (ms : List Move) (t : List ℕ) → MovesMine b t₀ e ms
    → (f : ℕ) → ((g : ℕ) → Mine b t₀ e g → f ≡ g → ⊥) → word (move_all t ms) f ≡ word t f
unfolding move_all
moves_elsewhere [] t mine f other = refl
moves_elsewhere (m ∷ ms) t mine f other =
    moves_elsewhere ms (move t m) mine.2 f other
    ∙ get_or-set_other (set t m.source 0) m.target f (word t m.source) 0 (other m.target mine.1)
    ∙ get_or-set_other t m.source f 0 0 (other m.source mine.0)

module _ {b : Board} {t₀ : List ℕ} {x : Live} (inv : Inv b t₀ x) (e : ℕ) where
  unchanged : Preserved b t₀ e (at b x) (at b x)
  unchanged = record { good_next = good inv; others = λ d low other. agree_self (at b x) }

  -- a call under its tests: what remains is the outcome where they pass
  under_all : (own : List Test) (done : Done)
      → (bad_quotas (at b x).board ≡ false → e < b.domains → passes own ≡ true → Preserved b t₀ e (at b x) done.next)
      → Preserved b t₀ e (at b x) (called (at b x) e own done).next
  under_all own done f = called_one (Preserved b t₀ e (at b x)) (at b x) unchanged inv.accepted e own done f

  under : (own : List Test) (done : Done) → (e < b.domains → passes own ≡ true → Preserved b t₀ e (at b x) done.next)
      → Preserved b t₀ e (at b x) (called (at b x) e own done).next
  under own done f = under_all own done (λ awake. f)

  -- a call for a page
  paged : (p : ℕ) (own : List Test) (done : Done)
      → (e < b.domains → p ≤ 4095 → passes own ≡ true → Preserved b t₀ e (at b x) done.next)
      → Preserved b t₀ e (at b x) (called (at b x) e (page_test p ∷ own) done).next
  paged p own done f = under (page_test p ∷ own) done (λ below ok. let r = small_page p own ok in f below r.0 r.1)

  pub look_keeps : (p : ℕ) → Preserved b t₀ e (at b x) (look (at b x) e p).next
  unfolding look
  look_keeps p = paged p _ _ (λ below small ok. unchanged)

  pub colours_keeps : Preserved b t₀ e (at b x) (colours (at b x) e).next
  unfolding colours
  colours_keeps = under _ _ (λ below ok. unchanged)

  -- no frame of another domain is one that e may write
  not_mine : e < b.domains → (d : ℕ) → d < b.domains → (e ≡ d → ⊥) → (f : ℕ) → granted b d f ≡ true → (g : ℕ) → Mine b t₀ e g → f ≡ g → ⊥
  not_mine below d low other f own g mine q = other ((known inv).disjoint e d _ below low mine.own (rw q at own))

  wrote : e < b.domains → (f w : ℕ) → Mine b t₀ e f → Fresh b x.table e w → Preserved b t₀ e (at b x) (written (at b x) f w)
  wrote below f w mine fresh =
      record {
        good_next = good (put inv below f w mine fresh);
        others = λ d low other.
            record { active = refl; allowed = refl; words = λ g h own. get_or-set_other x.table f g w 0 (not_mine below d low other g own f mine) };
      }

  fault_done_lem : e < b.domains → (p : ℕ) → p ≤ 4095 → (ms gs : List ℕ)
      → (ms ≡ [] → (f : ℕ) → f < b.frames → word x.table f ≡ word_of e p → ⊥) → Each (Mine b t₀ e) gs → (is_empty ms && is_empty gs) ≡ false
      → Preserved b t₀ e (at b x) (fault_done (at b x) (word_of e p) ms gs).next
  fault_done_lem below p small (f ∷ ms) gs none mine some = unchanged
  fault_done_lem below p small [] [] none mine some = absurd (true≢false some)
  fault_done_lem below p small [] (g ∷ gs) none mine some =
      wrote below g (word_of e p) mine.0 (inr (record { page = p; small = small; is = refl }, none refl))

  pub fault_keeps : (p : ℕ) → Preserved b t₀ e (at b x) (fault (at b x) e p).next
  unfolding fault
  fault_keeps p =
      paged p _ _ (λ below small ok.
      fault_done_lem below p small (mapped_to (at b x) e p) (choices (at b x) e (set_of x e)) (unmapped b x e p)
      (choices_mine inv below (set_of x e) ((known inv).inside e below)) (passed_first _ _ (passed_first _ _ ok).1).0)

  release_done : e < b.domains → (ms : List ℕ) → Each (Mine b t₀ e) ms → is_empty ms ≡ false
      → Preserved b t₀ e (at b x) (written (at b x) (head_or 0 ms) 0)
  release_done below [] mine some = absurd (true≢false some)
  release_done below (f ∷ ms) mine some = wrote below f 0 mine.0 (inl refl)

  pub release_keeps : (p : ℕ) → Preserved b t₀ e (at b x) (release (at b x) e p).next
  unfolding release
  release_keeps p =
      paged p _ _ (λ below small ok. release_done below (mapped_to (at b x) e p) (mapped_mine inv below p small) (passed_first _ _ ok).0)

  recolour_done : e < b.domains → (c : ℕ) (ms : List Move) → MovesMine b t₀ e ms → empty_or_outside (grant b e) c ≡ false
      → Preserved b t₀ e (at b x) (at b (with_set (with_table x (move_all x.table ms)) e c))
  recolour_done below c ms mine ok =
      record {
        good_next = good (recoloured (moves_keep below x ms mine inv) e c below ok);
        others = λ d low other. record {
          active = get_or-set_other x.active e d c 0 (λ q. other (sym q));
          allowed = refl;
          words = λ f h own. moves_elsewhere ms x.table mine f (not_mine below d low other f own);
        };
      }

  pub recolour_keeps : (c : ℕ) (lent : List ℕ) → Preserved b t₀ e (at b x) (recolour (at b x) e c lent).next
  unfolding recolour
  recolour_keeps c lent =
      let vs = strays (at b x) e c in
      let gs = choices (at b x) e c in
      under _ _ (λ below ok.
      let nine = (passed_first _ _ ok).0 in
      recolour_done below c (pair_up e x.table vs gs)
      (pairs_mine b t₀ e x.table vs gs (strays_mine inv below c) (choices_mine inv below c (set_inside b e c nine))) nine)

  -- triples that fit, the other way: the new frame has a word of e, and the old one is free with a granted colour
  pub back_mine : e < b.domains → (c : ℕ) → Inside b e c → (ms : List Move) → triples.EachMove (Fits (at b x) e c) ms → MovesMine b t₀ e (backward ms)
  unfolding backward
  back_mine below c inside [] fits = tt
  back_mine below c inside (m ∷ ms) fits =
      let k = fits.0 in (
        own_frame inv below m.target k.new_below (record { page = m.page; small = k.page; is = k.held }),
        free_frame inv below m.source k.old_below k.free (inside (m.source % b.colours) k.inside),
        back_mine below c inside ms fits.1,
      )

  pub take_back_keeps : (c : ℕ) (list : List ℕ) → Preserved b t₀ e (at b x) (take_back (at b x) e c list).next
  unfolding take_back
  take_back_keeps c list =
      under _ _ (λ below ok.
      let nine = passed_first _ _ ok in
      let fits = (list_fits (at b x) e c list (passed_first _ _ nine.1).0).each in
      recolour_done below c (backward (move_list list)) (back_mine below c (set_inside b e c nine.0) (move_list list) fits) nine.0)

  pub quota_keeps : (q : ℕ) → Preserved b t₀ e (at b x) (set_quota (at b x) e q).next
  unfolding set_quota
  quota_keeps q =
      under_all _ _ (λ awake below ok.
      record {
        good_next = good (allowed inv e q awake below (neither (no_quota q) _ (passed_first _ _ ok).0).0);
        others = λ d low other.
            record { active = refl; allowed = get_or-set_other x.quotas e d q 0 (λ z. other (sym z)); words = λ f h own. refl };
      })

pub call_keeps : {b : Board} {t₀ : List ℕ} {s : State} → Good b t₀ s → (c : Call) → Preserved b t₀ (names c) s (outcome s c).next
call_keeps (good inv) (Look d p) = look_keeps inv d p
call_keeps (good inv) (Fault d p) = fault_keeps inv d p
call_keeps (good inv) (Release d p) = release_keeps inv d p
call_keeps (good inv) (Colours d) = colours_keeps inv d
call_keeps (good inv) (Recolour d c lent) = recolour_keeps inv d c lent
call_keeps (good inv) (SetQuota d q) = quota_keeps inv d q
call_keeps (good inv) (TakeBack d c list) = take_back_keeps inv d c list
