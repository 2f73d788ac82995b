-- A fault takes in each word of the table once and keeps few numbers between words: document 02, No. 2, with the choice of No. 7 and the quota of No. 6. `tally/specs/Tally.antt`
-- says what is kept and what one word more makes of it, `calls/specs/OnePass.antt` what of it answers the fault. Tally are, in sixteen lanes of frames, how
-- many the domain holds and the lowest that is free; the page's word and the domain's first; how many words were taken in, and the page's frame. The call
-- gives the board's N and F and the domain's active set and quota. These are the numbers after the words xs of the blocks before; with them are kept the words bs, as
-- they are, of the block of sixteen frames under way, so that xs and bs together are any first part of the table, and ys the words after it.
use Rattle.std.specs.Prelude.{ℕ, ◌≤◌, true, false, List, [], ◌++◌, ◌≡◌, ltb, length}
use Rattle.lists.specs.Range.{any_of}
use Rattle.refusal.specs.Reply.{passes}
use Rattle.board.specs.declared.Board.{Board}
use Rattle.calls.specs.Table.{state_of, word_of}
use Rattle.calls.specs.Calls.{page_tests, fault}
use Rattle.calls.specs.OnePass.{after, answer, taker, with_word, all_numbers}

pub record OnePassClaims : Type 0 where
  -- Where 2 to 8, 26 and 10 pass, the numbers kept after any first part of the table, with the words after it, give the fault's answer and the frame that gets
  -- the word, if one does; nothing else changes.
  pub one_pass :
      (b : Board) (d p : ℕ) (t : List ℕ) → passes (page_tests b (length t) d p) ≡ true
      → (xs bs ys : List ℕ) → t ≡ xs ++ (bs ++ ys)
      → let k = after d p xs in
      fault (state_of b t) d p
      ≡ record {
        reply = answer b d k (bs ++ ys);
        moves = [];
        next = state_of b (with_word b.frames (taker b d k (bs ++ ys)) (word_of d p) t);
      }
  -- They are at most 64, what the call gives of the board among them, and none of them exceeds 16 bits where the words of the table do not.
  pub few_numbers :
      (b : Board) (d p words : ℕ) → passes (page_tests b words d p) ≡ true
      → (xs bs : List ℕ) → length xs ≤ words → length bs ≤ 16 → any_of (ltb 65535) bs ≡ false
      → (length (all_numbers b d (after d p xs) bs) ≤ 64) × (any_of (ltb 65535) (all_numbers b d (after d p xs) bs) ≡ false)
