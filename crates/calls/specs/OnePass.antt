-- A fault by what it keeps while it takes in the words of the table (`tally`): document 02, Nos. 2, 6 and 7. The numbers kept after any first part of the
-- table, with the words still to come, give its answer and the frame that gets the word.
use Rattle.std.specs.Prelude.{ℕ, ◌-◌, Bool, true, ◌&&◌, ◌||◌, List, ◌∷◌, eqb, ltb, leb, set, if◌then◌else◌}
use Rattle.lists.specs.Range.{fewest}
use Rattle.refusal.specs.Reply.{Reply, Answers, Refuses}
use Rattle.colours.specs.Cache.{colour_of}
use Rattle.colours.specs.Sets.{has}
use Rattle.board.specs.declared.Board.{Board}
use Rattle.board.specs.Tests.{active_set, quota}
use Rattle.tally.specs.declared.Tally.{Tally}
use Rattle.tally.specs.Tally.{start, take_all, tally_numbers}
use Rattle.tally.specs.Lanes.{sum_lanes, least_lane}
use Rattle.calls.specs.Table.{word_of}
use Rattle.calls.specs.Calls.{Answer, Old, New}

-- lane i has colour x, of n
abbrev pub is_lane_of : ℕ → ℕ → ℕ → Bool
is_lane_of n x i = eqb (colour_of n i) x

-- By the lanes, on a board of n colours and m frames: how many frames of colour x the domain holds, and the lowest free one, or m where none is
unfoldable pub held_by : ℕ → List ℕ → ℕ → ℕ
held_by n held x = sum_lanes (is_lane_of n x) held

unfoldable pub free_by : ℕ → ℕ → List ℕ → ℕ → ℕ
free_by n m free x = least_lane (is_lane_of n x) free m

-- of the colours of set c with a free frame, the one with the fewest held, the lowest on a tie; and its lowest free frame
unfoldable pub colour_by : ℕ → ℕ → ℕ → List ℕ → List ℕ → ℕ
colour_by n m c held free = fewest (λ x. has c x && ltb (free_by n m free x) m) (held_by n held) n

unfoldable pub frame_by : ℕ → ℕ → ℕ → List ℕ → List ℕ → ℕ
frame_by n m c held free = free_by n m free (colour_by n m c held free)

-- What is kept after the first words of a table, in a fault of domain d for page p
unfoldable pub after : ℕ → ℕ → List ℕ → Tally
after d p xs = take_all (start (word_of d p) (word_of d 0)) xs

-- the frame to take unless the page has one, or the number of frames
unfoldable pub frame_for : Board → ℕ → Tally → ℕ
frame_for b d k = frame_by b.colours b.frames (active_set b d) k.held k.free

-- the frames that the lanes have counted are at or above the quota
unfoldable pub at_quota_by : Board → ℕ → Tally → Bool
at_quota_by b d k = leb (quota b d) (sum_lanes (λ (i : ℕ). true) k.held)

-- What is kept when no word is left gives the answer: the page's frame, else refusal 28, else the frame to take, else refusal 12
unfoldable pub answer_of : Board → ℕ → Tally → Reply Answer
answer_of b d k =
    if ltb 0 k.mapped then Answers (Old (k.mapped - 1))
    else if at_quota_by b d k then Refuses 28 0
    else if ltb (frame_for b d k) b.frames then Answers (New (frame_for b d k))
    else Refuses 12 0

-- and the frame that gets the word, or the number of frames where none does
unfoldable pub taker_of : Board → ℕ → Tally → ℕ
taker_of b d k = if ltb 0 k.mapped || at_quota_by b d k then b.frames else frame_for b d k

-- what is kept gives them with the words that are still to come
unfoldable pub answer : Board → ℕ → Tally → List ℕ → Reply Answer
answer b d k xs = answer_of b d (take_all k xs)

unfoldable pub taker : Board → ℕ → Tally → List ℕ → ℕ
taker b d k xs = taker_of b d (take_all k xs)

-- a table of so many frames in which such a frame, if there is one, has got word w
unfoldable pub with_word : ℕ → ℕ → ℕ → List ℕ → List ℕ
with_word m f w t = if ltb f m then set t f w else t

-- all numbers that are kept: what the call gives of the board, those of the record, and the words of the block under way
unfoldable pub all_numbers : Board → ℕ → Tally → List ℕ → List ℕ
all_numbers b d k block = b.colours ∷ b.frames ∷ active_set b d ∷ quota b d ∷ tally_numbers k block
