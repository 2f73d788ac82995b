-- The moves of a recolouring may be made in the order of its list: old frames are different, so are new ones, and no old frame is a new one. So whoever
-- follows the list comes to the table that the call leaves.
use Prim.Native.Nat.{ℕ, zero, suc, ◌<◌, ◌≤◌}
use native.Mathlib.Nat.{le_refl, lt_irrefl}
use native.Mathlib.Omega.{arith}
use mathlib.Core.Bool.{Bool, true, false, not, true≢false}
use mathlib.Core.List.{List, [], ◌∷◌}
use mathlib.Core.Path.{◌≡◌, refl, sym, ap, ◌∙◌}
use lib.Dec.{eqb, leb}
use lib.ListN.{length, set}
use lib.Seq.{get_or-set_other, set_comm}
use borrow.Author.Tests.{eqb-false, leb-true, not-true}
use Rattle.limits.specs.Limits.{last_page}
use Rattle.lists.specs.Range.{upto, keep}
use Rattle.lists.proofs.CaseSplits.{cases, and_both}
use Rattle.lists.proofs.Members as members
use Rattle.lists.proofs.FilteredRange as filter
use Rattle.lists.proofs.AgreeingTests.{one_fewer}
use Rattle.refusal.specs.Reply.{Answers}
use Rattle.calls.specs.Table.{State, word, word_of, in_set, is_held, is_stray, frames_with, frees, strays}
use Rattle.calls.specs.FrameChoice.{next_frame, without, taken, choices}
use Rattle.calls.specs.Calls.{Move, pair_up, pairs, earlier, insert_move, in_order, move, move_all, Moved, recolour}
use Rattle.calls.proofs.ChoiceLaws.{Chosen, still_free, each_free, chosen}
use Rattle.calls.proofs.RecolouringDone.{recoloured}
use Rattle.calls.proofs.Moves.{EachMove, Sorted, Lower, Rising, pair_both}
use Rattle.calls.proofs.MoveList.{pairs_rise}
use Rattle.calls.proofs.PageOrder.{each_order}

-- no frame of one move is a frame of the other
pub record Apart (a b : Move) : Type 0 where
  pub sources : a.source ≡ b.source → ⊥
  pub targets : a.target ≡ b.target → ⊥
  pub out_in : a.source ≡ b.target → ⊥
  pub in_out : a.target ≡ b.source → ⊥

pub apart_back : (a b : Move) → Apart a b → Apart b a
apart_back a b h =
    record { sources = λ e. h.sources (sym e); targets = λ e. h.targets (sym e); out_in = λ e. h.in_out (sym e); in_out = λ e. h.out_in (sym e) }

-- such moves may change places
pub either_first : (t : List ℕ) (a b : Move) → Apart a b → move (move t a) b ≡ move (move t b) a
either_first t a b h =
    let v : ℕ = word t a.source in
    let w : ℕ = word t b.source in
    let ta : List ℕ = set t a.source 0 in
    let tb : List ℕ = set t b.source 0 in
    let w_stays : word (move t a) b.source ≡ w =
    get_or-set_other ta a.target b.source v 0 (λ e. h.in_out (sym e)) ∙ get_or-set_other t a.source b.source 0 0 (λ e. h.sources (sym e)) in
    let v_stays : word (move t b) a.source ≡ v =
    get_or-set_other tb b.target a.source w 0 h.out_in ∙ get_or-set_other t b.source a.source 0 0 h.sources in
    rw (w_stays, v_stays)
    (ap (λ (u : List ℕ). set u b.target w) (set_comm ta a.target b.source v 0 h.in_out)
    ∙ ap (λ (u : List ℕ). set (set u a.target v) b.target w) (set_comm t a.source b.source 0 0 h.sources)
    ∙ set_comm (set tb a.source 0) a.target b.target v w h.targets
    ∙ ap (λ (u : List ℕ). set u a.target v) (set_comm tb a.source b.target 0 w h.out_in))

insert_moves : (t : List ℕ) (m : Move) (ms : List Move) → EachMove (Apart m) ms → move_all t (insert_move m ms) ≡ move_all (move t m) ms
unfolding insert_move move_all
insert_moves t m [] apart = refl
insert_moves t m (a ∷ ms) apart =
    cases (earlier a m)
    (λ e. rw e (insert_moves (move t a) m ms apart.1 ∙ ap (λ (u : List ℕ). move_all u ms) (sym (either_first t m a apart.0))))
    (λ e. rw e)

order_moves : (t : List ℕ) (ms : List Move) → Sorted Apart ms → move_all t (in_order ms) ≡ move_all t ms
unfolding in_order move_all
order_moves t [] apart = refl
order_moves t (m ∷ ms) apart =
    insert_moves t m (in_order ms) (each_order (Apart m) ms apart.0) ∙ order_moves (move t m) ms apart.1

-- no frame is taken twice
abbrev Once : List ℕ → Type 0
Once [] = Unit {0}
Once (f ∷ fs) = members.Each (λ (g : ℕ). g ≡ f → ⊥) fs × Once fs

taken_once : (n m : ℕ) → 0 < n → (k : ℕ) (free held : ℕ → Bool) → k ≤ length (keep free (upto m)) → Once (taken k n m free held)
unfolding taken
taken_once n m coloured zero free held l = tt
taken_once n m coloured (suc k) free held l =
    let f : ℕ = next_frame n m free held in
    let room : k ≤ length (keep (without free f) (upto m)) = omega (arith, one_fewer free (without free f) f (still_free free f) m 0) in (
      filter.each_map (λ (g : ℕ). (g < m) × (without free f g ≡ true)) (λ (g : ℕ). g ≡ f → ⊥)
          (λ g r. eqb-false g f (not-true (eqb g f) (and_both (free g) (not (eqb g f)) r.1).1))
          (taken k n m (without free f) _)
          (each_free n m coloured (without free f) k (without free f) _ (λ g e. e) room),
      taken_once n m coloured k (without free f) _ room,
    )

-- the new frames of two moves are different
abbrev Other : Move → Move → Type 0
Other a b = b.target ≡ a.target → ⊥

targets_other : (d f : ℕ) (t vs gs : List ℕ) → members.Each (λ (g : ℕ). g ≡ f → ⊥) gs → EachMove (λ m. m.target ≡ f → ⊥) (pair_up d t vs gs)
unfolding pair_up
targets_other d f t [] gs h = tt
targets_other d f t (v ∷ vs) [] h = tt
targets_other d f t (v ∷ vs) (g ∷ gs) h = (h.0, targets_other d f t vs gs h.1)

pairs_other : (d : ℕ) (t vs gs : List ℕ) → Once gs → Sorted Other (pair_up d t vs gs)
unfolding pair_up
pairs_other d t [] gs h = tt
pairs_other d t (v ∷ vs) [] h = tt
pairs_other d t (v ∷ vs) (g ∷ gs) h = (targets_other d g t vs gs h.0, pairs_other d t vs gs h.1)

-- what a chosen move has: it leads from a frame that the domain holds for the page, outside the set, to a free one inside it
pub record Leads (s : State) (d c : ℕ) (m : Move) : Type 0 where
  pub from_frame : m.source < s.board.frames
  pub to_frame : m.target < s.board.frames
  pub small : m.page ≤ last_page
  pub held : word s.table m.source ≡ word_of d m.page
  pub free : word s.table m.target ≡ 0
  pub outside : in_set s.board.colours c m.source ≡ false
  pub inside : in_set s.board.colours c m.target ≡ true

module _ (s : State) (d c : ℕ) (coloured : 0 < s.board.colours) where
  pub pairs_lead : EachMove (Leads s d c) (pairs s d c)
  unfolding strays frames_with
  pairs_lead =
      let stray : ℕ → Bool = is_stray s.table s.board.colours d c in
      pair_both d s.table (Leads s d c) (λ v. (v < s.board.frames) × (stray v ≡ true)) (Chosen s c)
      (λ v g q r.
      let w : ℕ = word s.table v in
      let o = and_both (is_held s.table d v) _ q.1 in
      let own = and_both (leb (word_of d 0) w) (leb w (word_of d last_page)) o.0 in
      let low = leb-true (word_of d 0) w own.0 in
      let high = leb-true w (word_of d last_page) own.1 in
      record {
        from_frame = q.0;
        to_frame = r.below;
        small = omega arith;
        held = omega arith;
        free = r.free;
        outside = not-true _ o.1;
        inside = r.inside;
      })
      (strays s d c) (choices s d c) (filter.kept stray s.board.frames) (chosen s d c coloured)

  from_to : (a b : Move) → Leads s d c a → Leads s d c b → a.source ≡ b.target → ⊥
  from_to a b i j e = true≢false (sym j.inside ∙ rw (← e) i.outside)

  -- two of them have no frame in common
  apart_each : (m : Move) (ms : List Move) → EachMove (Lower m) ms → EachMove (Other m) ms → Leads s d c m → EachMove (Leads s d c) ms → EachMove (Apart m) ms
  apart_each m [] rise other i all = tt
  apart_each m (a ∷ ms) rise other i all = (
    record {
      sources = λ e. lt_irrefl m.source (omega (arith, e, rise.0));
      targets = λ e. other.0 (sym e);
      out_in = from_to m a i all.0;
      in_out = λ e. from_to a m all.0 i (sym e);
    },
    apart_each m ms rise.1 other.1 i all.1,
  )

  apart_all : (ms : List Move) → Rising ms → Sorted Other ms → EachMove (Leads s d c) ms → Sorted Apart ms
  apart_all [] rise other all = tt
  apart_all (m ∷ ms) rise other all = (apart_each m ms rise.0 other.0 all.0 all.1, apart_all ms rise.1 other.1 all.1)

  pub pairs_apart : Sorted Apart (pairs s d c)
  unfolding choices frees frames_with
  pairs_apart =
      let once = taken_once s.board.colours s.board.frames coloured (length (frees s c)) _ (is_held s.table d) (le_refl _) in
      apart_all (pairs s d c) (pairs_rise s d c) (pairs_other d s.table (strays s d c) (choices s d c) once) pairs_lead

-- the moves of the list, one after the other, leave the table of the call
pub table_by_list : (s : State) (d c : ℕ) (lent : List ℕ) (n : ℕ) → (recolour s d c lent).reply ≡ Answers (Moved n)
    → move_all s.table (recolour s d c lent).moves ≡ (recolour s d c lent).next.table
table_by_list s d c lent n e =
    let r = recoloured s d c lent n e in
    rw (r.moves, r.table) (order_moves s.table (pairs s d c) (pairs_apart s d c r.coloured))
