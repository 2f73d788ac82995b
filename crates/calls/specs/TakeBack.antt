-- Taking a recolouring back: document 02, No. 10, with refusals 31 and 32, for every board, table and list. Given just the triples and the former set, each
-- frame goes back from its new frame to its old one, and that set becomes active.
use Rattle.std.specs.Prelude.{ℕ, ◌%◌, Bool, false, not, ◌||◌, List, [], ◌∷◌, eqb, ltb, leb, length}
use Rattle.limits.specs.Limits.{last_page}
use Rattle.lists.specs.Range.{any_of, is_empty}
use Rattle.refusal.specs.Reply.{Test, test}
use Rattle.board.specs.Tests.{grant, empty_or_outside}
use Rattle.calls.specs.Table.{State, word_of, has_word, is_free, strays}
use Rattle.calls.specs.Calls.{Outcome, Moved, Move, move_all, with_active, called}

-- the triples (page, old frame, new frame) whose words a list has
unfoldable pub move_list : List ℕ → List Move
move_list (p ∷ v ∷ g ∷ ws) = record { page = p; source = v; target = g } ∷ move_list ws
move_list (p ∷ v ∷ []) = []
move_list (p ∷ []) = []
move_list [] = []

-- whether some triple passes a test
unfoldable pub any_move : (Move → Bool) → List Move → Bool
any_move p [] = false
any_move p (m ∷ ms) = p m || any_move p ms

-- the frames that triples name, each as often as it is named
unfoldable pub frames_named : List Move → List ℕ
frames_named [] = []
frames_named (m ∷ ms) = m.source ∷ m.target ∷ frames_named ms

-- whether some number stands in two places of a list
unfoldable pub twice : List ℕ → Bool
twice [] = false
twice (f ∷ fs) = any_of (eqb f) fs || twice fs

-- What 31 has against a triple, on table t with n colours and so many frames: a page above 4,095, a frame at or above F, a new frame without the domain's
-- word for the page, or an old one that is not a free frame of the former set.
abbrev pub wrong_triple : List ℕ → ℕ → ℕ → ℕ → ℕ → Move → Bool
wrong_triple t n frames d c m =
    ltb last_page m.page
    || leb frames m.source
    || leb frames m.target
    || not (has_word t (word_of d m.page) m.target)
    || not (is_free t n c m.source)

-- And against a list: no multiple of three words, such a triple, or a frame twice.
abbrev pub wrong_words : List ℕ → ℕ → ℕ → ℕ → ℕ → List ℕ → Bool
wrong_words t n frames d c list =
    not (eqb (length list % 3) 0)
    || any_move (wrong_triple t n frames d c) (move_list list)
    || twice (frames_named (move_list list))

-- both in a state
abbrev pub wrong_move : State → ℕ → ℕ → Move → Bool
wrong_move s d c m = wrong_triple s.table s.board.colours s.board.frames d c m

abbrev pub wrong_list : State → ℕ → ℕ → List ℕ → Bool
wrong_list s d c list = wrong_words s.table s.board.colours s.board.frames d c list

-- each triple the other way: from the new frame to the old one
abbrev pub back : Move → Move
back m = record { page = m.page; source = m.target; target = m.source }

unfoldable pub backward : List Move → List Move
backward [] = []
backward (m ∷ ms) = back m ∷ backward ms

-- every frame is back, and the former set is active
abbrev pub restored : State → ℕ → ℕ → List ℕ → State
restored s d c list =
    record { board = with_active s.board d c; table = move_all s.table (backward (move_list list)) }

-- 9: the set is 0 or has a bit outside the grant. 31: the list is wrong. 32: some frame of the domain would lie outside the former set
abbrev pub take_back_tests : State → ℕ → ℕ → List ℕ → List Test
take_back_tests s d c list =
    test 9 (empty_or_outside (grant s.board d) c)
    ∷ test 31 (wrong_list s d c list)
    ∷ test 32 (not (is_empty (strays (restored s d c list) d c)))
    ∷ []

-- the answer is the count of moves. The list is only read: no triple is written
unfoldable pub take_back : State → ℕ → ℕ → List ℕ → Outcome
take_back s d c list =
    called s d (take_back_tests s d c list)
    (record { answer = Moved (length (move_list list)); moves = []; next = restored s d c list })
