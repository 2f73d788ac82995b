-- Frames accounted for: document 02, No. 14. Service staff compare the frames that a domain holds with its log of calls. Four facts tie the two, after any history
-- from an accepted board and an empty table; and the count needs the log alone, which is what the domain's own calls were answered: no board, no table, no call.
use Rattle.std.specs.Prelude.{ℕ, suc, ◌+◌, ◌-◌, ◌<◌, ◌≤◌, Bool, ◌&&◌, List, [], ◌∷◌, ◌↔◌, ◌≡◌, if◌then◌else◌}
use Rattle.refusal.specs.Reply.{Reply, Answers}
use Rattle.board.specs.Tests.{active_set}
use Rattle.calls.specs.Table.{State, word, word_of, frames_held, frees}
use Rattle.calls.specs.Calls.{Answer, Unmapped, New, Freed, look, fault, release}
use Rattle.isolation.specs.DomainRule.{Call, outcome, run, own, Told, answers, SameMap, Accepted, Empty}
use Rattle.isolation.specs.Kinds.{is_new, is_freed, is_accepted, is_fault, is_release}
use Rattle.isolation.specs.TakingBack.{OfOthers}

-- How many of a list pass a test.
unfoldable pub how_many : {A : Type 0} → (A → Bool) → List A → ℕ
how_many p [] = 0
how_many p (x ∷ xs) = let rest = how_many p xs in if p x then suc rest else rest

-- The calls of a history from s, in their order, each with its reply.
pub record Entry : Type 0 where
  pub call : Call
  pub reply : Reply Answer

unfoldable pub entries : State → List Call → List Entry
entries s [] = []
entries s (c ∷ cs) = record { call = c; reply = (outcome s c).reply } ∷ entries (outcome s c).next cs

-- How many faults of domain d in a history from s were answered new, and how many of its releases were accepted. The frames that it holds are `frames_held` of the
-- frame table's page: all with one of its words, whatever page and colour.
abbrev pub new_faults : ℕ → State → List Call → ℕ
new_faults d s h = how_many (λ e. is_fault d e.call && is_new e.reply) (entries s h)

abbrev pub accepted_releases : ℕ → State → List Call → ℕ
accepted_releases d s h = how_many (λ e. is_release d e.call && is_accepted e.reply) (entries s h)

-- No page of domain d has two frames.
abbrev pub OneFrameAPage : ℕ → State → Type 0
OneFrameAPage d s =
    (p f g : ℕ) → p ≤ 4095 → f < s.board.frames → g < s.board.frames
    → word s.table f ≡ word_of d p → word s.table g ≡ word_of d p → f ≡ g

-- The same frames are reserved in both states.
abbrev pub SameReserved : State → State → Type 0
SameReserved s r = (f : ℕ) → f < s.board.frames → (word s.table f ≡ 65535) ↔ (word r.table f ≡ 65535)

-- Frame f is the only free one in the active colours of domain d.
abbrev pub OnlyFree : ℕ → State → ℕ → Type 0
OnlyFree d s f = frees s (active_set s.board d) ≡ f ∷ []

-- Where a frame that domain d releases in s is the only free one in its active colours after that, a fault of an unmapped page as its next own call gets it,
-- whatever calls of other domains come between.
abbrev pub GetsItBack : ℕ → State → Type 0
GetsItBack d s =
    (p f : ℕ) → let released = release s d p in
    released.reply ≡ Answers (Freed f) → OnlyFree d released.next f
    → (others : List Call) → OfOthers d others → let r = run released.next others in
    (q : ℕ) → (look r d q).reply ≡ Answers Unmapped
    → (fault r d q).reply ≡ Answers (New f)

-- The four facts. A domain holds as many frames as its faults answered new, less its accepted releases (said as a sum, since a difference of numbers stops at 0);
-- none of its pages has two frames; reserved words never change, and no word becomes one; and where a frame that it just released is the only free one, its next
-- own call gets it, if that is a fault of an unmapped page.
abbrev pub FramesAccountedFor : Type 0
FramesAccountedFor =
    (start : State) → Accepted start → Empty start
    → (d : ℕ) → d < start.board.domains
    → (h : List Call) → let s = run start h in
    (frames_held s d + accepted_releases d start h ≡ new_faults d start h)
    × OneFrameAPage d s
    × SameReserved start s
    × GetsItBack d s

-- The log of a domain is what its own calls were answered, in their order: `answers` of the domain rule. The frames held, by the log alone: the replies that give
-- a new frame, less those that tell of one released. The move lists in it are not looked at.
abbrev pub new_in : List Told → ℕ
new_in log = how_many (λ t. is_new t.reply) log

abbrev pub freed_in : List Told → ℕ
freed_in log = how_many (λ t. is_freed t.reply) log

abbrev pub held_by_log : List Told → ℕ
held_by_log log = new_in log - freed_in log

-- From whatever accepted board with an empty table, and whatever the history, the log gives the frames that the domain holds, and both counts over the history.
abbrev pub LogIsEnough : Type 0
LogIsEnough =
    (log : List Told)
    → (start : State) → Accepted start → Empty start
    → (d : ℕ) → d < start.board.domains
    → (h : List Call) → answers d start h ≡ log
    → (frames_held (run start h) d ≡ held_by_log log)
    × (new_faults d start h ≡ new_in log)
    × (accepted_releases d start h ≡ freed_in log)

-- So where table and log differ, no history with this log left this board and table: something else wrote there, or the log has a gap. A log with more released
-- than new differs from every table.
abbrev pub DifferenceTells : Type 0
DifferenceTells =
    (s : State) (d : ℕ) (log : List Told) → (frames_held s d + freed_in log ≡ new_in log → ⊥)
    → (start : State) → Accepted start → Empty start → d < start.board.domains
    → (h : List Call) → answers d start h ≡ log → run start h ≡ s → ⊥

-- A log may begin anywhere, on any board and table: the frames held then, with the new ones since, are those held now with the ones released since.
abbrev pub HeldSince : Type 0
HeldSince =
    (s : State) (d : ℕ) (h : List Call)
    → frames_held (run s h) d + freed_in (answers d s h) ≡ frames_held s d + new_in (answers d s h)

-- Where the log has the calls too, these tell which page has which frame: replayed alone from the start, they leave the domain the same frame for each page.
abbrev pub ReplayTells : Type 0
ReplayTells =
    (start : State) → Accepted start → Empty start
    → (d : ℕ) → d < start.board.domains
    → (h : List Call) → SameMap d (run start (own d h)) (run start h)
