-- The frame table: document 01, "Board and frame table". Its words, what a frame is to a call, and the frames, ascending, that a call seeks.
use Rattle.std.specs.Prelude.{ℕ, ◌+◌, ◌-◌, ◌*◌, Bool, not, ◌&&◌, List, leb, length, get_or}
use Rattle.limits.specs.Limits.{pages, last_page}
use Rattle.lists.specs.Range.{upto, keep, is_at}
use Rattle.colours.specs.Cache.{colour_of}
use Rattle.colours.specs.Sets.{has}
use Rattle.board.specs.declared.Board.{Board}

-- the board and the table that a call gets, and those that it leaves
pub record State : Type 0 where
  pub board : Board
  pub table : List ℕ

abbrev pub state_of : Board → List ℕ → State
state_of b t = record { board = b; table = t }

-- the word of frame f
abbrev pub word : List ℕ → ℕ → ℕ
word t f = get_or t f 0

-- held by domain d for page p
abbrev pub word_of : ℕ → ℕ → ℕ
word_of d p = 1 + pages * d + p

-- held by domain d, for one of its pages
abbrev pub is_of : ℕ → ℕ → Bool
is_of d w = leb (word_of d 0) w && leb w (word_of d last_page)

-- the page for which domain d holds it
abbrev pub page_for : ℕ → ℕ → ℕ
page_for d w = w - word_of d 0

-- What frame f is to a call, on table t with n colours: its colour is in set c,
abbrev pub in_set : ℕ → ℕ → ℕ → Bool
in_set n c f = has c (colour_of n f)

-- it has word w,
abbrev pub has_word : List ℕ → ℕ → ℕ → Bool
has_word t w f = is_at t w f

-- it is free, with a colour in set c,
abbrev pub is_free : List ℕ → ℕ → ℕ → ℕ → Bool
is_free t n c f = has_word t 0 f && in_set n c f

-- domain d holds it,
abbrev pub is_held : List ℕ → ℕ → ℕ → Bool
is_held t d f = is_of d (word t f)

-- domain d holds it, with a colour outside set c
abbrev pub is_stray : List ℕ → ℕ → ℕ → ℕ → ℕ → Bool
is_stray t n d c f = is_held t d f && not (in_set n c f)

-- the frames that pass a test, ascending
unfoldable pub frames_with : State → (ℕ → Bool) → List ℕ
frames_with s p = keep p (upto s.board.frames)

-- the frames with the domain's word for a page
unfoldable pub mapped_to : State → ℕ → ℕ → List ℕ
mapped_to s d p = frames_with s (has_word s.table (word_of d p))

-- the free frames with a colour in a set
unfoldable pub frees : State → ℕ → List ℕ
frees s c = frames_with s (is_free s.table s.board.colours c)

-- how many frames the domain holds, whatever page and colour: all frames with one of its words
unfoldable pub frames_held : State → ℕ → ℕ
frames_held s d = length (frames_with s (is_held s.table d))

-- the domain's frames with a colour outside a set
unfoldable pub strays : State → ℕ → ℕ → List ℕ
strays s d c = frames_with s (is_stray s.table s.board.colours d c)
