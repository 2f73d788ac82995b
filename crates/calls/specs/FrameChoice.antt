-- Which free frames a domain takes, and in which order: document 02, No. 7. The frame chosen has the colour in which the domain holds the fewest
-- frames among the colours of the set with a free frame, the lowest colour on a tie, then the lowest frame.
use Rattle.std.specs.Prelude.{ℕ, zero, suc, Bool, not, ◌&&◌, ◌||◌, List, [], ◌∷◌, eqb, ltb, length}
use Rattle.lists.specs.Range.{upto, keep, lowest, fewest}
use Rattle.colours.specs.Cache.{colour_of}
use Rattle.calls.specs.Table.{State, is_free, is_held, frees}

-- On a board of n colours and m frames: frame f passes a test and has colour x
abbrev pub of_colour : ℕ → (ℕ → Bool) → ℕ → ℕ → Bool
of_colour n p x f = p f && eqb (colour_of n f) x

-- how many frames pass a test and have colour x
unfoldable pub in_colour : ℕ → ℕ → (ℕ → Bool) → ℕ → ℕ
in_colour n m p x = length (keep (of_colour n p x) (upto m))

-- Which frames are free to be taken, and which the domain holds, are two tests, so that frames taken on the way can be counted. Of the colours with a
-- free frame, the one in which the domain holds the fewest frames, the lowest on a tie;
unfoldable pub next_colour : ℕ → ℕ → (ℕ → Bool) → (ℕ → Bool) → ℕ
next_colour n m free held = fewest (λ x. ltb 0 (in_colour n m free x)) (in_colour n m held) n

-- and its lowest free frame
unfoldable pub next_frame : ℕ → ℕ → (ℕ → Bool) → (ℕ → Bool) → ℕ
next_frame n m free held = lowest (of_colour n free (next_colour n m free held)) m

-- all that pass a test but f, and all that pass it and f
abbrev pub without : (ℕ → Bool) → ℕ → ℕ → Bool
without p f g = p g && not (eqb g f)

abbrev pub together : (ℕ → Bool) → ℕ → ℕ → Bool
together p f g = p g || eqb g f

-- So many frames, one after another: a frame that was taken is no longer free, and is held.
unfoldable pub taken : ℕ → ℕ → ℕ → (ℕ → Bool) → (ℕ → Bool) → List ℕ
taken zero n m free held = []
taken (suc k) n m free held =
    let f = next_frame n m free held in
    f ∷ taken k n m (without free f) (together held f)

-- the free frames with a colour in set c, in the order in which domain d takes them
unfoldable pub choices : State → ℕ → ℕ → List ℕ
choices s d c =
    let n = s.board.colours in
    taken (length (frees s c)) n s.board.frames (is_free s.table n c) (is_held s.table d)
