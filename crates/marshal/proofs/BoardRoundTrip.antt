-- The 27 words of a board: reading and writing undo each other, so the words that a call leaves stand for the board that it leaves, and
-- a new active set is one new word.
use Prim.Native.Nat.{ℕ, zero, suc, ◌+◌, ◌<◌, ◌≤◌}
use native.Mathlib.Nat.{zero-add, suc-add}
use native.Mathlib.Omega.{arith}
use mathlib.Core.List.{List, [], ◌∷◌, ◌++◌}
use mathlib.Core.Path.{◌≡◌, refl, sym, ap, ◌∙◌}
use lib.ListN.{length, get_or, set, take, drop, length-append, length-set}
use lib.Seq.{drop-cons, drop-drop, take_all, take_at, drop_at, set-append_left, set_out}
use Rattle.lists.proofs.CaseSplits.{cases}
use Rattle.refusal.specs.Reply.{Test, unless}
use Rattle.board.specs.declared.Board.{Board}
use Rattle.calls.specs.Table.{State, state_of}
use Rattle.calls.specs.Calls.{Answer, Move, Done, with_active, with_quota, recolour, called, settle}
use Rattle.calls.specs.TakeBack.{take_back}
use Rattle.marshal.specs.BoardWords.{words_from, board_of, board_words, words_after, words_left, lent_state}

pub taken : (ws : List ℕ) (n k : ℕ) → k + n ≤ length ws → take n (drop k ws) ≡ words_from k n ws
taken ws zero k h = refl
taken ws (suc n) k h =
    let l : k < length ws = omega arith in
    rw (drop-cons ws k 0 l) (ap (λ (l : List ℕ). get_or ws k 0 ∷ l) (taken ws n (suc k) (omega arith)))

pub whole : (ws : List ℕ) (n : ℕ) → length ws ≡ n → words_from 0 n ws ≡ ws
whole ws n e = sym (taken ws n 0 (omega arith)) ∙ take_all n ws (omega arith)

pub word_at : (ws : List ℕ) (n k i : ℕ) → i < n → get_or (words_from k n ws) i 0 ≡ get_or ws (k + i) 0
word_at ws zero k i h = omega (arith, h)
word_at ws (suc n) k zero h = ap (λ (j : ℕ). get_or ws j 0) (omega arith)
word_at ws (suc n) k (suc i) h =
    let e : suc k + i ≡ k + suc i = omega arith in
    word_at ws n (suc k) i (omega arith) ∙ ap (λ (j : ℕ). get_or ws j 0) e

-- a board that is written back where it was read changes nothing
pub words_back : (ws : List ℕ) → length ws ≡ 27 → board_words (board_of ws) ≡ ws
unfolding board_words
words_back ws e = whole ws 27 e

-- the words of a board stand for it
pub board_back : (b : Board) → length b.grants ≡ 8 → length b.active ≡ 8 → length b.quotas ≡ 8 → board_of (board_words b) ≡ b
unfolding board_words
board_back b g a q =
    let r : List ℕ = b.active ++ b.quotas in
    let l : List ℕ = b.grants ++ r in
    let m : length r ≡ 16 = simp length-append (omega arith) in
    let n : length l ≡ 24 = simp length-append (omega arith) in
    let after_grants : drop 8 l ≡ r = drop_at b.grants r 8 g in
    let grants : words_from 0 8 l ≡ b.grants = sym (taken l 8 0 (omega arith)) ∙ take_at b.grants r 8 g in
    let active : words_from 8 8 l ≡ b.active =
    sym (taken l 8 8 (omega arith)) ∙ ap (λ (ws : List ℕ). take 8 ws) after_grants ∙ take_at b.active b.quotas 8 a in
    let last : drop 16 l ≡ b.quotas = sym (drop-drop 8 8 l) ∙ ap (λ (ws : List ℕ). drop 8 ws) after_grants ∙ drop_at b.active b.quotas 8 a in
    let quotas : words_from 16 8 l ≡ b.quotas = sym (taken l 8 16 (omega arith)) ∙ ap (λ (ws : List ℕ). take 8 ws) last ∙ take_all 8 b.quotas (omega arith) in
    λ j. record { colours = b.colours; frames = b.frames; domains = b.domains; grants = grants j; active = active j; quotas = quotas j }

set_after : (xs ys : List ℕ) (i w : ℕ) → set (xs ++ ys) (length xs + i) w ≡ xs ++ set ys i w
set_after [] ys i w = ap (λ (k : ℕ). set ys k w) (zero-add i)
set_after (x ∷ xs) ys i w =
    ap (λ (k : ℕ). set (x ∷ (xs ++ ys)) k w) (suc-add (length xs) i) ∙ ap (λ (l : List ℕ). x ∷ l) (set_after xs ys i w)

-- a new active set is one new word, and so is a new quota; a domain past the eight has neither
pub one_word : (ws : List ℕ) (d c : ℕ) → length ws ≡ 27 → d < 8 → board_words (with_active (board_of ws) d c) ≡ set ws (11 + d) c
unfolding board_words
one_word ws d c e low =
    ap (λ (l : List ℕ). words_from 0 11 ws ++ l) (sym (set-append_left (words_from 11 8 ws) (words_from 19 8 ws) d c low))
    ∙ sym (set_after (words_from 0 11 ws) (words_from 11 8 ws ++ words_from 19 8 ws) d c)
    ∙ ap (λ (l : List ℕ). set l (11 + d) c) (words_back ws e)

pub no_word : (ws : List ℕ) (d c : ℕ) → length ws ≡ 27 → 8 ≤ d → board_words (with_active (board_of ws) d c) ≡ ws
unfolding board_words
no_word ws d c e high =
    ap (λ (l : List ℕ). words_from 0 11 ws ++ (l ++ words_from 19 8 ws)) (set_out (words_from 11 8 ws) d c high) ∙ words_back ws e

pub quota_word : (ws : List ℕ) (d q : ℕ) → length ws ≡ 27 → board_words (with_quota (board_of ws) d q) ≡ set ws (19 + d) q
unfolding board_words
quota_word ws d q e =
    sym (set_after (words_from 0 19 ws) (words_from 19 8 ws) d q) ∙ ap (λ (l : List ℕ). set l (19 + d) q) (words_back ws e)

-- where the words stand for the board before a call, those after it stand for the board after it
settled :
    (s : State) (ws : List ℕ) (ts : List Test) (done : Done)
    → board_of ws ≡ s.board
    → board_of (board_words done.next.board) ≡ done.next.board
    → board_of (words_left (settle s (unless ts done)) ws) ≡ (settle s (unless ts done)).next.board
unfolding settle unless
settled s ws [] done before after = after
settled s ws (t ∷ ts) done before after =
    cases t.fails (λ e. rw e before) (λ e. rw e (settled s ws ts done before after))

-- a call that may leave another active set
active_stand :
    (ws table : List ℕ) (d c : ℕ) (ts : List Test) (a : Answer) (ms : List Move) (t : List ℕ)
    → let o = settle (lent_state ws table) (unless ts (record { answer = a; moves = ms; next = state_of (with_active (board_of ws) d c) t })) in
    board_of (words_left o ws) ≡ o.next.board
active_stand ws table d c ts a ms t =
    let b : Board = with_active (board_of ws) d c in
    let long : length b.active ≡ 8 = simp length-set in
    settled (lent_state ws table) ws ts _ refl (board_back b refl long refl)

module _ (ws table moves : List ℕ) (d c : ℕ) where
  pub words_stand : board_of (words_left (recolour (lent_state ws table) d c moves) ws) ≡ (recolour (lent_state ws table) d c moves).next.board
  unfolding recolour called
  words_stand = active_stand ws table d c _ _ _ _

  pub words_stand_again : board_of (words_left (take_back (lent_state ws table) d c moves) ws) ≡ (take_back (lent_state ws table) d c moves).next.board
  unfolding take_back called
  words_stand_again = active_stand ws table d c _ _ _ _

-- an accepted recolouring or taking back leaves a board with another active set, so that one new word is all that there is to write
left : (s : State) (ws : List ℕ) (ts : List Test) (done : Done)
    → words_after (settle s (unless ts done)).reply done.next.board ws ≡ words_left (settle s (unless ts done)) ws
unfolding settle unless
left s ws [] done = refl
left s ws (t ∷ ts) done = cases t.fails (λ e. rw e) (λ e. rw e (left s ws ts done))

module _ (ws table moves : List ℕ) (d c : ℕ) where
  pub words_left_lem : words_after (recolour (lent_state ws table) d c moves).reply (with_active (board_of ws) d c) ws ≡ words_left (recolour (lent_state ws table) d c moves) ws
  unfolding recolour called
  words_left_lem = left (lent_state ws table) ws _ _

  pub words_left_again :
      words_after (take_back (lent_state ws table) d c moves).reply (with_active (board_of ws) d c) ws ≡ words_left (take_back (lent_state ws table) d c moves) ws
  unfolding take_back called
  words_left_again = left (lent_state ws table) ws _ _
