-- The move list of a recolouring: the moves that were chosen, each once, in page order, as many as the answer says. Their triples are its first words, and
-- the others do not change; where it is refused none does.
use Prim.Native.Nat.{ℕ, ◌*◌}
use native.Mathlib.Omega.{arith}
use mathlib.Core.List.Permᴰ
use mathlib.Core.List.{List, [], ◌∷◌, Permᴰ}
use mathlib.Core.Path.{◌≡◌, refl, ap, ◌∙◌}
use lib.ListN.{length, take, drop}
use lib.Seq.{take_at, drop_at}
use Rattle.lists.proofs.CaseSplits.{cases}
use Rattle.refusal.specs.Reply.{Reply, Answers, Refuses, Test, unless}
use Rattle.calls.specs.Table.{State, frames_with, is_stray, strays}
use Rattle.calls.specs.FrameChoice.{choices}
use Rattle.calls.specs.Calls.{Move, Done, Moved, settle, called, pairs, recolour, triples, listed}
use Rattle.calls.proofs.RecolouringDone.{Recoloured, recoloured}
use Rattle.calls.proofs.Moves.{Sorted, Rising, pair_count, pair_rising}
use Rattle.calls.proofs.PageOrder.{Before, ascending, each_once, order_count, one_order}

-- moves are chosen by old frame
pub pairs_rise : (s : State) (d c : ℕ) → Rising (pairs s d c)
unfolding strays frames_with
pairs_rise s d c = pair_rising (is_stray s.table s.board.colours d c) d s.table s.board.frames 0 (choices s d c)

pub triple_count : (ms : List Move) → length (triples ms) ≡ 3 * length ms
unfolding triples
triple_count [] = refl
triple_count (m ∷ ms) = omega (arith, triple_count ms)

-- the words of any move list
pub first_words : (ms : List Move) (lent : List ℕ) → take (3 * length ms) (listed ms lent) ≡ triples ms
first_words ms lent = take_at (triples ms) _ (3 * length ms) (triple_count ms)

pub other_words : (ms : List Move) (lent : List ℕ) → drop (3 * length ms) (listed ms lent) ≡ drop (3 * length ms) lent
other_words ms lent = drop_at (triples ms) _ (3 * length ms) (triple_count ms)

-- a refusal moves nothing
settled_moves : (s : State) (done : Done) (P : List Move → Type 0) (ts : List Test) → P [] → P done.moves → P (settle s (unless ts done)).moves
unfolding unless settle
settled_moves s done P [] none all = all
settled_moves s done P (t ∷ ts) none all = cases t.fails (λ f. rw f none) (λ f. rw f (settled_moves s done P ts none all))

no_moves : (s : State) (o : Reply Done) (n r : ℕ) → (settle s o).reply ≡ Refuses n r → (settle s o).moves ≡ []
unfolding settle
no_moves s (Answers done) n r e = cc
no_moves s (Refuses m q) n r e = refl

module _ (s : State) (d c : ℕ) (lent : List ℕ) where
  abbrev ours : List Move
  ours = (recolour s d c lent).moves

  pub in_page_order : Sorted Before ours
  unfolding recolour called
  in_page_order = settled_moves s _ (Sorted Before) _ tt (ascending (pairs s d c) (pairs_rise s d c))

  pub refused_list : (n r : ℕ) → (recolour s d c lent).reply ≡ Refuses n r → listed ours lent ≡ lent
  unfolding recolour called triples
  refused_list n r e = rw (no_moves s _ n r e)

  module _ (n : ℕ) (e : (recolour s d c lent).reply ≡ Answers (Moved n)) where
    abbrev done : Recoloured s d c lent n
    done = recoloured s d c lent n e

    pub moved_once : Permᴰ ours (pairs s d c)
    moved_once = rw done.moves (each_once (pairs s d c))

    pub move_count : length ours ≡ n
    move_count =
        ap length done.moves
        ∙ order_count (pairs s d c)
        ∙ pair_count d s.table (strays s d c) (choices s d c) done.room
        ∙ done.count

    -- no other list has the same moves in page order
    pub only_list : (ms : List Move) → Permᴰ ms (pairs s d c) → Sorted Before ms → ms ≡ ours
    only_list ms same sorted = one_order ms ours sorted in_page_order (Permᴰ.trans same (Permᴰ.symm moved_once))
