-- What the C interface and the program claim beyond the contracts: the 27 words of a board and the board stand for each other, an accepted
-- recolouring, taking back or quota call changes one word of it, and the bytes that the program keeps of its input tell the text of the whole.
use Rattle.std.specs.Prelude.{ℕ, ◌+◌, ◌<◌, List, ◌≡◌, length, set, take}
use Rattle.board.specs.declared.Board.{Board}
use Rattle.calls.specs.Calls.{with_active, with_quota, recolour}
use Rattle.calls.specs.TakeBack.{take_back}
use Rattle.report.specs.Report.{text_of}
use Rattle.marshal.specs.BoardWords.{board_of, board_words, words_left, lent_state}

pub record InterfaceClaims : Type 0 where
  -- A board that is written back where it was read changes nothing, and the words of a board stand for it.
  pub words_back : (ws : List ℕ) → length ws ≡ 27 → board_words (board_of ws) ≡ ws
  pub board_back : (b : Board) → length b.grants ≡ 8 → length b.active ≡ 8 → length b.quotas ≡ 8 → board_of (board_words b) ≡ b
  -- A new active set is one new word, and so is a new quota.
  pub one_word : (ws : List ℕ) (d c : ℕ) → length ws ≡ 27 → d < 8 → board_words (with_active (board_of ws) d c) ≡ set ws (11 + d) c
  pub quota_word : (ws : List ℕ) (d q : ℕ) → length ws ≡ 27 → board_words (with_quota (board_of ws) d q) ≡ set ws (19 + d) q
  -- The words that a recolouring or a taking back leaves stand for the board that it leaves.
  pub words_stand :
      (ws table moves : List ℕ) (d c : ℕ)
      → board_of (words_left (recolour (lent_state ws table) d c moves) ws) ≡ (recolour (lent_state ws table) d c moves).next.board
  pub words_stand_again :
      (ws table moves : List ℕ) (d c : ℕ)
      → board_of (words_left (take_back (lent_state ws table) d c moves) ws) ≡ (take_back (lent_state ws table) d c moves).next.board
  -- The program keeps the first 2,873 bytes of its input: a longer one has the same text.
  pub first_bytes_tell : (input : List ℕ) → text_of (take 2873 input) ≡ text_of input
