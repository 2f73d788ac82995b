-- A recolouring taken back at once, of any board and table on which the domain holds no frame outside its active set. Its moves have no frame in common,
-- so its triples are a list that 31 does not refuse, and its moves made the other way lead to the very board and table that it found.
use Prim.Native.Nat.{ℕ, ◌%◌, ◌<◌}
use native.Mathlib.Nat.{mul-mod_right}
use native.Mathlib.Omega.{arith}
use mathlib.Core.Bool.{Bool, true, false, ◌||◌, true≢false}
use mathlib.Core.List.{List, [], ◌∷◌, ◌++◌}
use mathlib.Core.Path.{◌≡◌, refl, sym, ap, ap₂, ◌∙◌}
use lib.Dec.{eqb}
use lib.ListN.{length, set, length-set}
use lib.Seq.{get_or-set_same, get_or-set_other, set-get_or, set-set, set_comm}
use borrow.Author.Tests.{eqb-false, eq-eqb, ne_eqb, le-ltb, le-leb, lt-leb, not-false}
use Rattle.limits.specs.Limits.{last_page}
use Rattle.lists.specs.Range.{any_of}
use Rattle.lists.proofs.CaseSplits.{neither}
use Rattle.lists.proofs.FilteredRange as filter
use Rattle.refusal.specs.Reply.{Answers, Test, passes}
use Rattle.refusal.proofs.Replies.{passed_answers}
use Rattle.refusal.proofs.Order.{passed_both}
use Rattle.board.specs.declared.Board.{Board}
use Rattle.board.specs.Tests.{active_set, call_tests}
use Rattle.calls.specs.Table.{State, state_of, word, word_of, in_set, is_held, frames_with, strays}
use Rattle.calls.specs.Calls.{Moved, Move, Done, settle, called, pairs, move, move_all, with_active, recolour, triples}
use Rattle.calls.specs.TakeBack.{move_list, any_move, frames_named, twice, wrong_move, wrong_list, back, backward, restored, take_back_tests, take_back}
use Rattle.calls.proofs.RecolouringDone.{recoloured, call_still}
use Rattle.calls.proofs.Moves.{EachMove, Sorted, each_move_map}
use Rattle.calls.proofs.PageOrder.{each_order, sorted_order}
use Rattle.calls.proofs.MoveList.{triple_count, move_count}
use Rattle.calls.proofs.AnyOrder.{Apart, apart_back, either_first, Leads, pairs_lead, pairs_apart, table_by_list}

-- the words of moves are read as those moves
pub read_back : (ms : List Move) → move_list (triples ms) ≡ ms
unfolding move_list triples
read_back [] = refl
read_back (m ∷ ms) = ap (λ (l : List Move). m ∷ l) (read_back ms)

-- a frame of no move keeps its word
abbrev pub Off : ℕ → Move → Type 0
Off f m = (f ≡ m.source → ⊥) × (f ≡ m.target → ⊥)

pub move_off : (t : List ℕ) (m : Move) (f : ℕ) → Off f m → word (move t m) f ≡ word t f
move_off t m f o =
    get_or-set_other (set t m.source 0) m.target f (word t m.source) 0 o.1 ∙ get_or-set_other t m.source f 0 0 o.0

moves_off : (t : List ℕ) (ms : List Move) (f : ℕ) → EachMove (Off f) ms → word (move_all t ms) f ≡ word t f
unfolding move_all
moves_off t [] f o = refl
moves_off t (m ∷ ms) f o = moves_off (move t m) ms f o.1 ∙ move_off t m f o.0

-- the table stays as long as it was
pub move_length : (t : List ℕ) (m : Move) → length (move t m) ≡ length t
move_length t m = length-set (set t m.source 0) m.target (word t m.source) ∙ length-set t m.source 0

moves_length : (t : List ℕ) (ms : List Move) → length (move_all t ms) ≡ length t
unfolding move_all
moves_length t [] = refl
moves_length t (m ∷ ms) = moves_length (move t m) ms ∙ move_length t m

-- A move between two frames of the table
abbrev FramesBelow : ℕ → Move → Type 0
FramesBelow n m = (m.source < n) × (m.target < n) × (m.source ≡ m.target → ⊥)

-- after moves that are apart each new frame has the word of the old one, which is free
abbrev Carried : List ℕ → List ℕ → Move → Type 0
Carried t u m = (word u m.target ≡ word t m.source) × (word u m.source ≡ 0)

carried : (t : List ℕ) (ms : List Move) → Sorted Apart ms → EachMove (FramesBelow (length t)) ms → EachMove (Carried t (move_all t ms)) ms
unfolding move_all
carried t [] apart fit = tt
carried t (m ∷ ms) apart fit =
    let v : ℕ = m.source in
    let g : ℕ = m.target in
    let tv : List ℕ = set t v 0 in
    let rest = carried (move t m) ms apart.1 (rw (move_length t m) fit.1) in (
      (
        moves_off (move t m) ms g (each_move_map (λ a h. (h.in_out, h.targets)) ms apart.0)
            ∙ get_or-set_same tv g (word t v) 0 (rw (length-set t v 0) fit.0.1),
        moves_off (move t m) ms v (each_move_map (λ a h. (h.sources, h.out_in)) ms apart.0)
            ∙ get_or-set_other tv g v (word t v) 0 fit.0.2
            ∙ get_or-set_same t v 0 0 fit.0.0,
      ),
      both_map ms apart.0 rest,
    )
  where
    both_map : (l : List Move) → EachMove (Apart m) l → EachMove (Carried (move t m) (move_all (move t m) ms)) l → EachMove (Carried t (move_all (move t m) ms)) l
    both_map [] h k = tt
    both_map (a ∷ l) h k = (
      (k.0.0 ∙ move_off t m a.source (λ e. h.0.sources (sym e), λ e. h.0.in_out (sym e)), k.0.1),
      both_map l h.1 k.1,
    )

-- a move apart from others may be made before them,
move_before : (u : List ℕ) (b : Move) (ms : List Move) → EachMove (Apart b) ms → move (move_all u ms) b ≡ move_all (move u b) ms
unfolding move_all
move_before u b [] apart = refl
move_before u b (a ∷ ms) apart =
    move_before (move u a) b ms apart.1 ∙ ap (λ (l : List ℕ). move_all l ms) (sym (either_first u b a apart.0))

-- and a move to a free frame, then back, changes nothing
move_back : (t : List ℕ) (m : Move) → FramesBelow (length t) m → word t m.target ≡ 0 → move (move t m) (back m) ≡ t
move_back t m fit free =
    let v : ℕ = m.source in
    let g : ℕ = m.target in
    let w : ℕ = word t v in
    let tv : List ℕ = set t v 0 in
    let there : word (move t m) g ≡ w = get_or-set_same tv g w 0 (rw (length-set t v 0) fit.1) in
    ap (λ (x : ℕ). set (set (move t m) g 0) v x) there
    ∙ ap (λ (l : List ℕ). set l v w) (set-set tv g w 0)
    ∙ set_comm tv g v 0 w (λ e. fit.2 (sym e))
    ∙ ap (λ (l : List ℕ). set l g 0) (set-set t v 0 w ∙ set-get_or t v 0)
    ∙ ap (set t g) (sym free)
    ∙ set-get_or t g 0

back_apart : (m : Move) (ms : List Move) → EachMove (Apart m) ms → EachMove (Apart (back m)) ms
back_apart m ms h =
    each_move_map (λ a k. record { sources = k.in_out; targets = k.out_in; out_in = k.targets; in_out = k.sources }) ms h

-- so moves that are apart, each to a free frame, are undone by the same moves the other way
pub moves_back : (t : List ℕ) (ms : List Move) → Sorted Apart ms → EachMove (FramesBelow (length t)) ms → EachMove (λ m. word t m.target ≡ 0) ms
    → move_all (move_all t ms) (backward ms) ≡ t
unfolding move_all backward
moves_back t [] apart fit free = refl
moves_back t (m ∷ ms) apart fit free =
    let first : move (move_all (move t m) ms) (back m) ≡ move_all t ms =
    move_before (move t m) (back m) ms (back_apart m ms apart.0) ∙ ap (λ (l : List ℕ). move_all l ms) (move_back t m fit.0 free.0) in
    ap (λ (l : List ℕ). move_all l (backward ms)) first ∙ moves_back t ms apart.1 fit.1 free.1

-- no triple of which the test says anything
none_wrong : (p : Move → Bool) (ms : List Move) → EachMove (λ m. p m ≡ false) ms → any_move p ms ≡ false
unfolding any_move
none_wrong p [] h = refl
none_wrong p (m ∷ ms) h = rw h.0 (none_wrong p ms h.1)

-- moves that are apart name no frame twice
not_named : (f : ℕ) (ms : List Move) → EachMove (Off f) ms → any_of (eqb f) (frames_named ms) ≡ false
unfolding frames_named
not_named f [] o = refl
not_named f (m ∷ ms) o = rw (ne_eqb f m.source o.0.0, ne_eqb f m.target o.0.1) (not_named f ms o.1)

named_once : (n : ℕ) (ms : List Move) → Sorted Apart ms → EachMove (FramesBelow n) ms → twice (frames_named ms) ≡ false
unfolding frames_named twice
named_once n [] apart fit = refl
named_once n (m ∷ ms) apart fit =
    rw (
      ne_eqb m.source m.target fit.0.2,
      not_named m.source ms (each_move_map (λ a h. (h.sources, h.out_in)) ms apart.0),
      not_named m.target ms (each_move_map (λ a h. (h.in_out, h.targets)) ms apart.0),
    )
    (named_once n ms apart.1 fit.1)

-- and moves that name no frame twice are apart, the other way
named_off : (f : ℕ) (ms : List Move) → any_of (eqb f) (frames_named ms) ≡ false → EachMove (Off f) ms
unfolding frames_named
named_off f [] e = tt
named_off f (m ∷ ms) e =
    let a = neither (eqb f m.source) _ e in
    let b = neither (eqb f m.target) _ a.1 in
    ((eqb-false f m.source a.0, eqb-false f m.target b.0), named_off f ms b.1)

pub once_apart : (ms : List Move) → twice (frames_named ms) ≡ false → Sorted Apart (backward ms)
unfolding frames_named twice backward
once_apart [] e = tt
once_apart (m ∷ ms) e =
    let rest : List ℕ = frames_named ms in
    let a = neither (eqb m.source m.target || any_of (eqb m.source) rest) (any_of (eqb m.target) rest || twice rest) e in
    let b = neither (any_of (eqb m.target) rest) (twice rest) a.1 in
    let old = named_off m.source ms (neither (eqb m.source m.target) (any_of (eqb m.source) rest) a.0).1 in
    let new = named_off m.target ms b.0 in
    (both ms old new, once_apart ms b.1)
  where
    both : (l : List Move) → EachMove (Off m.source) l → EachMove (Off m.target) l → EachMove (Apart (back m)) (backward l)
    both [] old new = tt
    both (a ∷ l) old new = (
      record { sources = new.0.1; targets = old.0.0; out_in = new.0.0; in_out = old.0.1 },
      both l old.1 new.1,
    )

-- the former set made active again is all that was active
set_back : (b : Board) (d c : ℕ) → with_active (with_active b d c) d (active_set b d) ≡ b
set_back b d c = rw (set-set b.active d c (active_set b d), set-get_or b.active d 0) refl

-- Moves of a recolouring of domain d to set c that are apart
module _ (s : State) (d c : ℕ) (ms : List Move) (long : length s.table ≡ s.board.frames) (apart : Sorted Apart ms) (lead : EachMove (Leads s d c) ms) where
  abbrev former : ℕ
  former = active_set s.board d

  -- the state that they lead to
  abbrev after : State
  after = state_of (with_active s.board d c) (move_all s.table ms)

  within : EachMove (FramesBelow (length s.table)) ms
  within =
      rw long (each_move_map (λ m h. (h.from_frame, h.to_frame, λ e. true≢false (sym h.inside ∙ rw (← e) h.outside))) ms lead)

  -- the board and the table are as they were
  is_back : restored after d former (triples ms) ≡ s
  is_back =
      ap₂ state_of (set_back s.board d c)
      (ap (λ (l : List Move). move_all after.table (backward l)) (read_back ms)
      ∙ moves_back s.table ms apart within (each_move_map (λ m h. h.free) ms lead))

  -- where no frame of the domain was outside the former set, 31 has nothing against a triple
  not_wrong : strays s d former ≡ [] → (m : Move) → Leads s d c m → Carried s.table after.table m → wrong_move after d former m ≡ false
  unfolding strays frames_with
  not_wrong none m h k =
      let w : ℕ = word_of d m.page in
      let is_held_lem : is_held s.table d m.source ≡ true =
      rw (h.held, le-leb (word_of d 0) w (omega arith), le-leb w (word_of d last_page) (omega (arith, h.small))) in
      let stray = filter.kept_none _ s.board.frames none m.source h.from_frame in
      let inside : in_set s.board.colours former m.source ≡ true = not-false _ (rw is_held_lem at stray) in
      rw (
        le-ltb last_page m.page h.small,
        lt-leb s.board.frames m.source h.from_frame,
        lt-leb s.board.frames m.target h.to_frame,
        eq-eqb _ _ (k.0 ∙ h.held),
        eq-eqb _ _ k.1,
        inside,
      )

  all_right : (l : List Move) → strays s d former ≡ [] → EachMove (Leads s d c) l → EachMove (Carried s.table after.table) l
      → EachMove (λ m. wrong_move after d former m ≡ false) l
  all_right [] none h k = tt
  all_right (m ∷ l) none h k = (not_wrong none m h.0 k.0, all_right l none h.1 k.1)

  right_list : strays s d former ≡ [] → wrong_list after d former (triples ms) ≡ false
  right_list none =
      let thirds : length (triples ms) % 3 ≡ 0 = ap (λ (k : ℕ). k % 3) (triple_count ms) ∙ mul-mod_right 3 (length ms) in
      rw (
        thirds,
        read_back ms,
        none_wrong (wrong_move after d former) ms (all_right ms none lead (carried s.table ms apart within)),
        named_once (length s.table) ms apart within,
      )

-- the taking back answers the count, moves nothing more, and leaves what the recolouring found
pub undone : (s : State) (d c : ℕ) (lent : List ℕ) (n : ℕ) → (recolour s d c lent).reply ≡ Answers (Moved n)
    → let former = active_set s.board d in
    strays s d former ≡ []
    → take_back (recolour s d c lent).next d former (triples (recolour s d c lent).moves) ≡ record { reply = Answers (Moved n); moves = []; next = s }
unfolding take_back called settle passes
undone s d c lent n e none =
    let former : ℕ = active_set s.board d in
    let r = recoloured s d c lent n e in
    let ms : List Move = (recolour s d c lent).moves in
    let long = r.fine.bounds.long in
    let apart : Sorted Apart ms = rw r.moves (sorted_order Apart apart_back (pairs s d c) (pairs_apart s d c r.coloured)) in
    let lead : EachMove (Leads s d c) ms = rw r.moves (each_order (Leads s d c) (pairs s d c) (pairs_lead s d c r.coloured)) in
    let u : State = after s d c ms long apart lead in
    let is : (recolour s d c lent).next ≡ u = ap₂ state_of r.board (sym (table_by_list s d c lent n e)) in
    let eight : List Test = call_tests u.board (length u.table) d in
    let own : List Test = take_back_tests u d former (triples ms) in
    let same_length : length u.table ≡ length s.table = moves_length s.table ms in
    let first : passes eight ≡ true = rw same_length (call_still s.board (length s.table) d c r.fine r.nine) in
    let there : restored u d former (triples ms) ≡ s = is_back s d c ms long apart lead in
    let last : passes own ≡ true = rw (r.fine.passed.actives d r.fine.caller, right_list s d c ms long apart lead none, there, none) in
    let done : Done = record { answer = Moved (length (move_list (triples ms))); moves = []; next = restored u d former (triples ms) } in
    let count : length (move_list (triples ms)) ≡ n = ap length (read_back ms) ∙ move_count s d c lent n e in
    rw is (ap (settle u) (passed_answers (eight ++ own) done (passed_both eight own first last)) ∙ rw (count, there))
