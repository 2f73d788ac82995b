-- The 27 words by which a caller in C lends a board: N, F, the domain count, eight grants, eight active sets and eight quotas; and those that a call
-- leaves.
use Rattle.std.specs.Prelude.{ℕ, zero, suc, List, [], ◌∷◌, ◌++◌, get_or}
use Rattle.refusal.specs.Reply.{Reply, Answers, Refuses}
use Rattle.board.specs.declared.Board.{Board}
use Rattle.calls.specs.Table.{State, state_of}
use Rattle.calls.specs.Calls.{Answer, Outcome}

-- n words of a list, from word k on
abbrev pub words_from : ℕ → ℕ → List ℕ → List ℕ
words_from k zero words = []
words_from k (suc n) words = get_or words k 0 ∷ words_from (suc k) n words

abbrev pub board_of : List ℕ → Board
board_of words =
    record {
      colours = get_or words 0 0;
      frames = get_or words 1 0;
      domains = get_or words 2 0;
      grants = words_from 3 8 words;
      active = words_from 11 8 words;
      quotas = words_from 19 8 words;
    }

unfoldable pub board_words : Board → List ℕ
board_words b = b.colours ∷ b.frames ∷ b.domains ∷ (b.grants ++ (b.active ++ b.quotas))

-- the words that a call leaves: those of its board where it answers, and on a refusal the words as they were
abbrev pub words_after : Reply Answer → Board → List ℕ → List ℕ
words_after (Answers a) b words = board_words b
words_after (Refuses n r) b words = words

abbrev pub words_left : Outcome → List ℕ → List ℕ
words_left o words = words_after o.reply o.next.board words

-- the board and the table that a caller lends
abbrev pub lent_state : List ℕ → List ℕ → State
lent_state words table = state_of (board_of words) table
