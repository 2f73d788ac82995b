-- The domain rule, demand 3 of document 01, with its words: two histories look the same to a domain exactly when its own calls,
-- replayed alone, leave the same active colours, the same quota (document 02, No. 6) and the same map from pages to frames.
use Rattle.std.specs.Prelude.{ℕ, ◌<◌, ◌≤◌, true, List, [], ◌∷◌, ◌⊎◌, ◌↔◌, ◌≡◌, eqb, length, if◌then◌else◌}
use Rattle.refusal.specs.Reply.{Reply, passes}
use Rattle.board.specs.Tests.{board_tests}
use Rattle.calls.specs.Table.{State, word}
use Rattle.calls.specs.Calls.{Answer, Outcome, look, fault, release, colours, recolour, set_quota, listed}
use Rattle.calls.specs.TakeBack.{take_back}

-- A call: the domain that it names, any number, and a page for look, fault and release, a set and a move list of its own for recolour and take back, a
-- quota for set quota.
pub data Call : Type 0 where
  Look : ℕ → ℕ → Call
  Fault : ℕ → ℕ → Call
  Release : ℕ → ℕ → Call
  Colours : ℕ → Call
  Recolour : ℕ → ℕ → List ℕ → Call
  SetQuota : ℕ → ℕ → Call
  TakeBack : ℕ → ℕ → List ℕ → Call

abbrev pub names : Call → ℕ
names (Look d p) = d
names (Fault d p) = d
names (Release d p) = d
names (Colours d) = d
names (Recolour d c list) = d
names (SetQuota d q) = d
names (TakeBack d c list) = d

abbrev pub outcome : State → Call → Outcome
outcome s (Look d p) = look s d p
outcome s (Fault d p) = fault s d p
outcome s (Release d p) = release s d p
outcome s (Colours d) = colours s d
outcome s (Recolour d c list) = recolour s d c list
outcome s (SetQuota d q) = set_quota s d q
outcome s (TakeBack d c list) = take_back s d c list

-- A history is a list of calls. Each gets the board and table that the one before left; refused calls count.
unfoldable pub run : State → List Call → State
run s [] = s
run s (c ∷ cs) = run (outcome s c).next cs

-- The own calls of a domain: those that name it, in their order.
unfoldable pub own : ℕ → List Call → List Call
own d [] = []
own d (c ∷ cs) = let rest = own d cs in if eqb (names c) d then c ∷ rest else rest

-- The move list lent to a call, which only recolour and take back have: the one writes it, the other reads it.
abbrev pub lent : Call → List ℕ
lent (Look d p) = []
lent (Fault d p) = []
lent (Release d p) = []
lent (Colours d) = []
lent (Recolour d c list) = list
lent (SetQuota d q) = []
lent (TakeBack d c list) = list

-- What a domain is told by an own call: the answer, or the refusal's number and row, and the move list as it stands afterwards, word by word
-- (document 02, No. 4). The board handed back is no part of it.
pub record Told : Type 0 where
  pub reply : Reply Answer
  pub list : List ℕ

abbrev pub told : State → Call → Told
told s c = record { reply = (outcome s c).reply; list = listed (outcome s c).moves (lent c) }

-- What the domain's own calls of a list are told, in their order, when the list is run.
unfoldable pub answers : ℕ → State → List Call → List Told
answers d s [] = []
answers d s (c ∷ cs) =
    let rest = answers d (outcome s c).next cs in if eqb (names c) d then told s c ∷ rest else rest

-- Two states look the same to a domain: of any two later lists with the same own calls, one run on after each, the own calls are told
-- the same. Calls that name any other number may stand anywhere in either list and differ.
abbrev pub LookTheSame : ℕ → State → State → Type 0
LookTheSame d s r = (l m : List Call) → own d l ≡ own d m → answers d s l ≡ answers d r m

-- The active colours and the quota, what the colours call answers; the map, what look answers for each page 0 to 4,095.
abbrev pub SameColours : ℕ → State → State → Type 0
SameColours d s r = (colours s d).reply ≡ (colours r d).reply

abbrev pub SameMap : ℕ → State → State → Type 0
SameMap d s r = (p : ℕ) → p ≤ 4095 → (look s d p).reply ≡ (look r d p).reply

-- An accepted board with its table passes 2 to 7; an empty table has only 0 and 65,535, the reserved word, anywhere.
abbrev pub Accepted : State → Type 0
Accepted s = passes (board_tests s.board (length s.table)) ≡ true

abbrev pub Empty : State → Type 0
Empty s = (f : ℕ) → f < s.board.frames → (word s.table f ≡ 0) ⊎ (word s.table f ≡ 65535)

abbrev pub DomainRule : Type 0
DomainRule =
    (start : State) → Accepted start → Empty start
    → (d : ℕ) → d < start.board.domains
    → (h k : List Call)
    → LookTheSame d (run start h) (run start k)
    ↔ (SameColours d (run start (own d h)) (run start (own d k)) × SameMap d (run start (own d h)) (run start (own d k)))
