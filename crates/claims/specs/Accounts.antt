-- Frames accounted for: document 02, No. 14. What holds after any history, which `isolation/specs/Accounts.antt` states in one page; the log of a domain in a
-- history, counted by hand; and where a premise is wanting.
use Rattle.std.specs.Prelude.{ℕ, ◌<◌, List, [], ◌∷◌, ◌++◌, ◌≡◌}
use Rattle.refusal.specs.Reply.{Reply, Answers, Refuses}
use Rattle.board.specs.Tests.{quota}
use Rattle.calls.specs.Table.{State, frames_held, frees}
use Rattle.calls.specs.Calls.{Answer, Unmapped, Old, New, Freed, Moved, written, look, fault, release}
use Rattle.isolation.specs.DomainRule.{Call, Fault, Release, Recolour, SetQuota, TakeBack, run, own, Told, answers}
use Rattle.isolation.specs.Accounts.{new_in, freed_in, held_by_log, OnlyFree, FramesAccountedFor, LogIsEnough, DifferenceTells, HeldSince, ReplayTells}
use Rattle.examples.specs.Table.{recorder, three_faults, filled}

-- On document 01's example board, after its three faults, domain 0 faults a page that it has, releases one that it has not, gives up colour 1, so that a page
-- moves, and finds no frame for page 2.
abbrev pub full : List Call
full = three_faults ++ (Fault 0 9 ∷ Release 0 7 ∷ Recolour 0 0x1 (0 ∷ 0 ∷ 0 ∷ []) ∷ Fault 0 2 ∷ [])

-- After that; and calls of domain 1.
abbrev pub before : State
before = run recorder full

abbrev pub others : List Call
others = Fault 1 3 ∷ Release 1 0 ∷ SetQuota 1 2 ∷ []

-- Domain 0 releases page 9, domain 1 goes on, page 2 gets the frame, and the recolouring is taken back.
abbrev pub served : List Call
served = full ++ (Release 0 9 ∷ (others ++ (Fault 0 2 ∷ TakeBack 0 0x3 (1 ∷ 1 ∷ 4 ∷ []) ∷ [])))

-- The log of domain 0: its replies, with the move list of the two calls that have one.
abbrev pub said : Reply Answer → List ℕ → Told
said r words = record { reply = r; list = words }

abbrev pub log : List Told
log =
    said (Answers (New 0)) []
    ∷ said (Answers (New 1)) []
    ∷ said (Answers (Old 0)) []
    ∷ said (Refuses 14 0) []
    ∷ said (Answers (Moved 1)) (1 ∷ 1 ∷ 4 ∷ [])
    ∷ said (Refuses 12 0) []
    ∷ said (Answers (Freed 0)) []
    ∷ said (Answers (New 0)) []
    ∷ said (Answers (Moved 1)) (1 ∷ 1 ∷ 4 ∷ [])
    ∷ []

-- Domain 1 fills its colours and releases pages 0 and 3, frames 2 and 7.
abbrev pub two_free : State
two_free = run recorder (filled ++ (Release 1 0 ∷ Release 1 3 ∷ []))

-- Frame 0 has domain 0's word for page 9 from the start.
abbrev pub not_empty : State
not_empty = written recorder 0 10

pub record AccountClaims : Type 0 where
  -- After any history from an accepted board and an empty table, a domain holds as many frames as its faults answered new, less its accepted releases; none of
  -- its pages has two frames; reserved words never change, and no word becomes one; and where a frame that it just released is the only free one in its active
  -- colours, a fault of an unmapped page as its next own call gets it.
  pub frames_accounted_for : FramesAccountedFor
  -- The count from the replies alone: the log of the domain's own calls gives the frames held, and the counts over the history.
  pub log_is_enough : LogIsEnough
  -- Where table and log differ, no history with that log left that board and table.
  pub difference_tells : DifferenceTells
  -- A log may begin on any board and table: the frames held change from then on by those new, less those released.
  pub held_since : HeldSince
  -- Where the log has the calls, they tell which page has which frame: the domain's own calls, replayed alone, leave it the same frame for each page.
  pub replay_tells : ReplayTells
  -- Of any board and table: an unmapped page of a domain below its quota gets the only frame that is free in the active colours.
  pub only_frame :
      (s : State) (d p f : ℕ) → (look s d p).reply ≡ Answers Unmapped → frames_held s d < quota s.board d → OnlyFree d s f
      → (fault s d p).reply ≡ Answers (New f)
  -- The facts speak of something: the log is this one, three new and one released, and two frames are held.
  pub logged : (answers 0 recorder served ≡ log) × (new_in log ≡ 3) × (freed_in log ≡ 1) × (held_by_log log ≡ 2)
  pub two_held : frames_held (run recorder served) 0 ≡ 2
  -- When domain 0 has released page 9, frame 0 is the only free one in its active colours, and after the calls of domain 1 page 2 gets it.
  pub released :
      ((release before 0 9).reply ≡ Answers (Freed 0)) × OnlyFree 0 (release before 0 9).next 0 × (own 0 others ≡ [])
      × ((look (run (release before 0 9).next others) 0 2).reply ≡ Answers Unmapped)
  pub got_back : (fault (run (release before 0 9).next others) 0 2).reply ≡ Answers (New 0)
  -- With an own call between, here a recolouring that gives colour 1 again, the page gets another frame; and so it does where another frame is free, though
  -- frame 7 was released last.
  pub own_call_between : (fault (run (release before 0 9).next (Recolour 0 0x3 [] ∷ [])) 0 2).reply ≡ Answers (New 1)
  pub another_free : (frees two_free 0xC ≡ 2 ∷ 7 ∷ []) × ((fault two_free 1 4).reply ≡ Answers (New 2))
  -- A table that is not empty at the start holds a frame of which no log tells.
  pub not_in_the_log : (frames_held not_empty 0 ≡ 1) × (held_by_log (answers 0 not_empty []) ≡ 0)
