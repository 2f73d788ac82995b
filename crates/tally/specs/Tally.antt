-- What a fault keeps while it takes in the words of the frame table, one after another: document 02, Nos. 2 and 7. `Tally` is the struct of the code: the
-- page's word and the domain's first, sixteen lanes of counts and of free frames, the number of words taken in, and the frame with the page's word. A
-- frame that is known stands there as 1 and its number, and 0 says that none is. What of it answers a fault is said in `calls`.
use Rattle.std.specs.Prelude.{ℕ, ◌+◌, ◌%◌, ◌≤◌, Bool, ◌&&◌, List, [], ◌∷◌, ◌++◌, eqb, ltb, leb, get_or, set, replicate, if◌then◌else◌}
use Rattle.limits.specs.Limits.{last_page}
use Rattle.tally.specs.declared.Tally.{Tally}

-- one of the 4,096 words of the domain with this first word
abbrev pub is_own : ℕ → ℕ → Bool
is_own first x = leb first x && leb x (first + last_page)

-- Sixteen lanes: that of frame f is f modulo 16. N divides 16, so that the frames of a lane have one colour. No frame was counted or noted:
unfoldable pub zeros : List ℕ
zeros = replicate 16 0

-- Frame f has word x. It counts in its lane where the word passes a test;
unfoldable pub count_in : (ℕ → Bool) → List ℕ → ℕ → ℕ → List ℕ
count_in p lanes f x = set lanes (f % 16) (get_or lanes (f % 16) 0 + (if p x then 1 else 0))

-- and it is the lowest free frame of its lane where it is free and none is known.
unfoldable pub note_in : List ℕ → ℕ → ℕ → List ℕ
note_in free f x = if eqb x 0 && eqb (get_or free (f % 16) 0) 0 then set free (f % 16) (f + 1) else free

-- the words of the frames from f on
unfoldable pub count_all : (ℕ → Bool) → List ℕ → ℕ → List ℕ → List ℕ
count_all p lanes f [] = lanes
count_all p lanes f (x ∷ xs) = count_all p (count_in p lanes f x) (f + 1) xs

unfoldable pub note_all : List ℕ → ℕ → List ℕ → List ℕ
note_all free f [] = free
note_all free f (x ∷ xs) = note_all (note_in free f x) (f + 1) xs

-- no lane exceeds a number
abbrev pub LanesAtMost : ℕ → List ℕ → Type 0
LanesAtMost m lanes = (i : ℕ) → get_or lanes i 0 ≤ m

-- What is kept for word w after so many words: while the page's word has not come, the lanes; once it has come, with the last of them, nothing else is
-- wanted
abbrev pub so_far : ℕ → ℕ → List ℕ → List ℕ → ℕ → Tally
so_far w first held free taken = record { word = w; first = first; held = held; free = free; taken = taken; mapped = 0 }

abbrev pub found : ℕ → ℕ → ℕ → Tally
found w first taken = record { word = w; first = first; held = zeros; free = zeros; taken = taken; mapped = taken }

-- before the first word
unfoldable pub start : ℕ → ℕ → Tally
start w first = so_far w first zeros zeros 0

-- Taking in word x, that of frame `taken`: nothing changes once the page's frame is known; the page's word has come; or the frame is counted and noted
unfoldable pub take_in : Tally → ℕ → Tally
take_in k x =
    if ltb 0 k.mapped then k
    else if eqb x k.word then found k.word k.first (k.taken + 1)
    else so_far k.word k.first (count_in (is_own k.first) k.held k.taken x) (note_in k.free k.taken x) (k.taken + 1)

unfoldable pub take_all : Tally → List ℕ → Tally
take_all k [] = k
take_all k (x ∷ xs) = take_all (take_in k x) xs

-- all numbers kept between two words: those of the record, and the words of the block under way
unfoldable pub tally_numbers : Tally → List ℕ → List ℕ
tally_numbers k block = k.word ∷ k.first ∷ k.taken ∷ k.mapped ∷ (k.held ++ (k.free ++ block))
