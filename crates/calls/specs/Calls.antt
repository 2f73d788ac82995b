-- The calls, for every board, table and argument: reply, moves, board and table afterwards. Document 01, refusals 2 to 14; the order of the
-- moves is document 02, No. 4, the quota with refusals 26 to 28 its No. 6. Taking back has a file of its own (TakeBack).
use Rattle.std.specs.Prelude.{ℕ, ◌*◌, Bool, ◌&&◌, ◌||◌, List, [], ◌∷◌, ◌++◌, eqb, ltb, leb, length, drop, set, if◌then◌else◌}
use Rattle.limits.specs.Limits.{last_page}
use Rattle.lists.specs.Range.{head_or, is_empty}
use Rattle.refusal.specs.Reply.{Reply, Answers, Refuses, Test, test, unless}
use Rattle.board.specs.declared.Board.{Board}
use Rattle.board.specs.Tests.{grant, active_set, quota, empty_or_outside, no_quota, call_tests}
use Rattle.calls.specs.Table.{State, word, word_of, page_for, mapped_to, frames_held, strays}
use Rattle.calls.specs.FrameChoice.{choices}

-- what a call answers
pub data Answer : Type 0 where
  -- look: the frame, or unmapped
  Mapped : ℕ → Answer
  Unmapped : Answer
  -- fault: the frame, old or new
  Old : ℕ → Answer
  New : ℕ → Answer
  -- release: the frame that became free
  Freed : ℕ → Answer
  -- colours: the active set and the quota
  Active : ℕ → ℕ → Answer
  -- recolour and take back: the count of moves
  Moved : ℕ → Answer
  -- set quota: the quota that is now set
  Quota : ℕ → Answer

-- a triple of the move list: page, old frame and new frame
pub record Move : Type 0 where
  pub page : ℕ
  pub source : ℕ
  pub target : ℕ

-- what an accepted call does: its answer, its moves, and the board and table that it leaves
pub record Done : Type 0 where
  pub answer : Answer
  pub moves : List Move
  pub next : State

pub record Outcome : Type 0 where
  pub reply : Reply Answer
  pub moves : List Move
  pub next : State

-- a refusal moves nothing and changes nothing
unfoldable pub settle : State → Reply Done → Outcome
settle s (Answers d) = record { reply = Answers d.answer; moves = d.moves; next = d.next }
settle s (Refuses n r) = record { reply = Refuses n r; moves = []; next = s }

-- the tests of a call, 2 to 7, 26 and 8, then its own
unfoldable pub called : State → ℕ → List Test → Done → Outcome
called s d own done = settle s (unless (call_tests s.board (length s.table) d ++ own) done)

-- 10: a page exceeds the last one
abbrev pub page_test : ℕ → Test
page_test p = test 10 (ltb last_page p)

-- of a call that names a page: 2 to 7, 26 and 8, then 10
abbrev pub page_tests : Board → ℕ → ℕ → ℕ → List Test
page_tests b words d p = call_tests b words d ++ (page_test p ∷ [])

-- an answer that changes nothing
abbrev pub only : State → Answer → Done
only s a = record { answer = a; moves = []; next = s }

-- one word of the table is written
abbrev pub written : State → ℕ → ℕ → State
written s f w = record { board = s.board; table = set s.table f w }

-- look: the lowest frame with the domain's word for the page, or unmapped
abbrev pub look_answer : List ℕ → Answer
look_answer [] = Unmapped
look_answer (f ∷ fs) = Mapped f

unfoldable pub look : State → ℕ → ℕ → Outcome
look s d p = called s d (page_test p ∷ []) (only s (look_answer (mapped_to s d p)))

-- fault: if the page is mapped, that frame; else the first free frame that the domain takes for its active set, which gets the word
abbrev pub fault_done : State → ℕ → List ℕ → List ℕ → Done
fault_done s w (f ∷ fs) gs = only s (Old f)
fault_done s w [] gs = record { answer = New (head_or 0 gs); moves = []; next = written s (head_or 0 gs) w }

-- the frames held are at or above the quota
abbrev pub at_quota : State → ℕ → Bool
at_quota s d = leb (quota s.board d) (frames_held s d)

-- 28: an unmapped page faults at the quota. 12: an unmapped page faults and no free frame has an active colour
abbrev pub fault_tests : State → ℕ → List ℕ → List ℕ → List Test
fault_tests s d ms gs = test 28 (is_empty ms && at_quota s d) ∷ test 12 (is_empty ms && is_empty gs) ∷ []

unfoldable pub fault : State → ℕ → ℕ → Outcome
fault s d p =
    let ms = mapped_to s d p in
    let gs = choices s d (active_set s.board d) in
    called s d (page_test p ∷ fault_tests s d ms gs) (fault_done s (word_of d p) ms gs)

-- release: the lowest such frame becomes free, and is the answer. 14: the page to release is unmapped
unfoldable pub release : State → ℕ → ℕ → Outcome
release s d p =
    let ms = mapped_to s d p in
    called s d (page_test p ∷ test 14 (is_empty ms) ∷ [])
    (record { answer = Freed (head_or 0 ms); moves = []; next = written s (head_or 0 ms) 0 })

-- colours: the domain's active set and its quota
unfoldable pub colours : State → ℕ → Outcome
colours s d = called s d [] (only s (Active (active_set s.board d) (quota s.board d)))

-- recolour: the domain's frames outside the new set, ascending, go one by one to the free frames that it takes for that set
unfoldable pub pair_up : ℕ → List ℕ → List ℕ → List ℕ → List Move
pair_up d t [] gs = []
pair_up d t (v ∷ vs) [] = []
pair_up d t (v ∷ vs) (g ∷ gs) = record { page = page_for d (word t v); source = v; target = g } ∷ pair_up d t vs gs

-- the moves of a recolouring as they are chosen, by old frame
abbrev pub pairs : State → ℕ → ℕ → List Move
pairs s d c = pair_up d s.table (strays s d c) (choices s d c)

-- the order of the move list: by page, equal pages by old frame
abbrev pub earlier : Move → Move → Bool
earlier a b = ltb a.page b.page || (eqb a.page b.page && ltb a.source b.source)

-- a move goes in behind the moves that are earlier
unfoldable pub insert_move : Move → List Move → List Move
insert_move m [] = m ∷ []
insert_move m (a ∷ ms) = if earlier a m then a ∷ insert_move m ms else m ∷ a ∷ ms

-- moves in that order
unfoldable pub in_order : List Move → List Move
in_order [] = []
in_order (m ∷ ms) = insert_move m (in_order ms)

-- the word goes to the new frame, and the old one becomes free
abbrev pub move : List ℕ → Move → List ℕ
move t m = set (set t m.source 0) m.target (word t m.source)

unfoldable pub move_all : List ℕ → List Move → List ℕ
move_all t [] = t
move_all t (m ∷ ms) = move_all (move t m) ms

-- the new set is active
abbrev pub with_active : Board → ℕ → ℕ → Board
with_active b d c =
    record {
      colours = b.colours;
      frames = b.frames;
      domains = b.domains;
      grants = b.grants;
      active = set b.active d c;
      quotas = b.quotas;
    }

-- 9: the set is 0 or has a bit outside the grant. 12: more frames to move than free ones in it. 13: less room than three words a move
abbrev pub recolour_tests : State → ℕ → ℕ → ℕ → List Test
recolour_tests s d c room =
    test 9 (empty_or_outside (grant s.board d) c)
    ∷ test 12 (ltb (length (choices s d c)) (length (strays s d c)))
    ∷ test 13 (ltb room (3 * length (strays s d c)))
    ∷ []

unfoldable pub recolour : State → ℕ → ℕ → List ℕ → Outcome
recolour s d c lent =
    called s d (recolour_tests s d c (length lent))
    (record {
      answer = Moved (length (strays s d c));
      moves = in_order (pairs s d c);
      next = record { board = with_active s.board d c; table = move_all s.table (pairs s d c) };
    })

-- set quota: the domain's quota is the one asked for, and nothing else of the board changes
abbrev pub with_quotas : Board → List ℕ → Board
with_quotas b qs =
    record {
      colours = b.colours;
      frames = b.frames;
      domains = b.domains;
      grants = b.grants;
      active = b.active;
      quotas = qs;
    }

abbrev pub with_quota : Board → ℕ → ℕ → Board
with_quota b d q = with_quotas b (set b.quotas d q)

-- 27: it is 0, above 4,096 or below the frames held
abbrev pub quota_test : State → ℕ → ℕ → Test
quota_test s d q = test 27 (no_quota q || ltb q (frames_held s d))

unfoldable pub set_quota : State → ℕ → ℕ → Outcome
set_quota s d q =
    called s d (quota_test s d q ∷ [])
    (record { answer = Quota q; moves = []; next = record { board = with_quota s.board d q; table = s.table } })

-- the words of the triples (page, old frame, new frame)
unfoldable pub triples : List Move → List ℕ
triples [] = []
triples (m ∷ ms) = m.page ∷ m.source ∷ m.target ∷ triples ms

-- a lent move list after a call with these moves: their triples, and the rest as it was
abbrev pub listed : List Move → List ℕ → List ℕ
listed ms lent = triples ms ++ drop (3 * length ms) lent
