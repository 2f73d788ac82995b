-- Taking a recolouring back: document 02, No. 10. What holds of it after any history, which `isolation/specs/TakingBack.antt` states in one page; what one that
-- is done answers and leaves, of any board and table; and a history in which a page goes to another frame and comes back.
use Rattle.std.specs.Prelude.{ℕ, ◌*◌, List, [], ◌∷◌, ◌≡◌, length}
use Rattle.refusal.specs.Reply.{Answers, Refuses}
use Rattle.board.specs.Tests.{active_set}
use Rattle.calls.specs.Table.{State, strays}
use Rattle.calls.specs.Calls.{Mapped, Moved, Outcome, look, recolour, triples}
use Rattle.calls.specs.TakeBack.{take_back}
use Rattle.isolation.specs.DomainRule.{Call, Fault, Release, SetQuota, run, own}
use Rattle.isolation.specs.TakingBack.{HeldInActive, wrote, TakingBackRestores, TakingBackUnseen, TakingBackAtOnce}
use Rattle.examples.specs.Table.{recorder, three_faults}

-- Document 01's recolouring on its example board: domain 0 gives up colour 1, and page 1 goes from frame 1 to frame 4.
abbrev pub before : State
before = run recorder three_faults

abbrev pub room : List ℕ
room = 0 ∷ 0 ∷ 0 ∷ []

abbrev pub done : Outcome
done = recolour before 0 0x1 room

-- Domain 1 goes on; domain 0 releases the page.
abbrev pub others : List Call
others = Fault 1 3 ∷ SetQuota 1 2 ∷ []

abbrev pub released : List Call
released = Release 0 1 ∷ []

-- The taking back after calls.
abbrev pub back : List Call → Outcome
back cs = take_back (run done.next cs) 0 (active_set before.board 0) (wrote done room 1)

pub record TakingBackClaims : Type 0 where
  -- In a history from an accepted board and an empty table, after an accepted recolouring of a domain and any calls of other domains, the taking back with the
  -- triples that the recolouring wrote and the set that was active before is accepted, answers the count of moves, and leaves the domain's active set,
  -- quota and map as they were before the recolouring.
  pub taking_back_restores : TakingBackRestores
  -- Whatever the domain calls from then on, it is told as if it had never recoloured; and with no call between, the very board and table are back.
  pub taking_back_unseen : TakingBackUnseen
  pub taking_back_at_once : TakingBackAtOnce
  -- Every held frame's colour is in its domain's active set.
  pub held_in_active : HeldInActive
  -- Of any board and table: an accepted recolouring leaves the domain no frame outside its new set. Where it had none outside the set active before, the taking
  -- back at once is accepted and leaves what the recolouring found.
  pub recoloured_inside :
      (s : State) (d c : ℕ) (lent : List ℕ) (n : ℕ) → (recolour s d c lent).reply ≡ Answers (Moved n)
      → strays (recolour s d c lent).next d c ≡ []
  pub undone :
      (s : State) (d c : ℕ) (lent : List ℕ) (n : ℕ) → (recolour s d c lent).reply ≡ Answers (Moved n)
      → strays s d (active_set s.board d) ≡ []
      → take_back (recolour s d c lent).next d (active_set s.board d) (triples (recolour s d c lent).moves)
      ≡ record { reply = Answers (Moved n); moves = []; next = s }
  -- Of any board, table and list: one that is accepted answers a third of the list's words, leaves the domain no frame outside the set, and makes that set active
  -- for the domain and for no other.
  pub a_third :
      (s : State) (d c : ℕ) (list : List ℕ) (n : ℕ) → (take_back s d c list).reply ≡ Answers (Moved n) → length list ≡ 3 * n
  pub none_outside :
      (s : State) (d c : ℕ) (list : List ℕ) (n : ℕ) → (take_back s d c list).reply ≡ Answers (Moved n)
      → strays (take_back s d c list).next d c ≡ []
  pub set_is_active :
      (s : State) (d c : ℕ) (list : List ℕ) (n : ℕ) → (take_back s d c list).reply ≡ Answers (Moved n)
      → let b = (take_back s d c list).next.board in
      (active_set b d ≡ c) × ((e : ℕ) → (e ≡ d → ⊥) → active_set b e ≡ active_set s.board e)
  -- The theorem speaks of something: page 1 goes from frame 1 to frame 4, and comes back whatever domain 1 did.
  pub goes :
      (done.reply ≡ Answers (Moved 1)) × (wrote done room 1 ≡ 1 ∷ 1 ∷ 4 ∷ []) × (own 0 others ≡ [])
      × ((look before 0 1).reply ≡ Answers (Mapped 1)) × ((look (run done.next others) 0 1).reply ≡ Answers (Mapped 4))
  pub comes_back : ((back others).reply ≡ Answers (Moved 1)) × ((look (back others).next 0 1).reply ≡ Answers (Mapped 1))
  -- A call of the domain itself may stand in its way: of a page that was released nothing is left to take back.
  pub own_call_between : (back released).reply ≡ Refuses 31 0
