-- Taking a recolouring back, over whole histories: document 02, No. 10. After an accepted recolouring of a domain and any calls of other domains, the taking
-- back with the triples that the recolouring wrote and the set that was active before is accepted, answers the count of moves, and leaves the domain's
-- active set, quota and map as they were before the recolouring. It rests on a fact of every history: no held frame is outside its domain's active set.
use Rattle.std.specs.Prelude.{ℕ, ◌*◌, ◌<◌, true, List, [], ◌≡◌, take}
use Rattle.refusal.specs.Reply.{Answers}
use Rattle.board.specs.Tests.{active_set}
use Rattle.calls.specs.Table.{State, in_set, is_held}
use Rattle.calls.specs.Calls.{Moved, Outcome, recolour, listed}
use Rattle.calls.specs.TakeBack.{take_back}
use Rattle.isolation.specs.DomainRule.{Call, run, own, LookTheSame, SameColours, SameMap, Accepted, Empty}

-- Every held frame's colour is in its domain's active set, after any history.
abbrev pub HeldInActive : Type 0
HeldInActive =
    (start : State) → Accepted start → Empty start
    → (d f : ℕ) → d < start.board.domains → f < start.board.frames
    → (h : List Call) → let s = run start h in
    is_held s.table d f ≡ true
    → in_set start.board.colours (active_set s.board d) f ≡ true

-- The words that a recolouring with n moves wrote: the first 3 n of the list that was lent to it, as it stands afterwards.
abbrev pub wrote : Outcome → List ℕ → ℕ → List ℕ
wrote done lent n = take (3 * n) (listed done.moves lent)

-- Calls of others: none of them names domain d.
abbrev pub OfOthers : ℕ → List Call → Type 0
OfOthers d cs = own d cs ≡ []

-- s is the state before the recolouring, done what the recolouring did, and back what the taking back does after the others' calls.
abbrev pub TakingBackRestores : Type 0
TakingBackRestores =
    (start : State) → Accepted start → Empty start
    → (h : List Call) → let s = run start h in
    (d c : ℕ) (lent : List ℕ) (n : ℕ) → let done = recolour s d c lent in
    done.reply ≡ Answers (Moved n)
    → (others : List Call) → OfOthers d others
    → let back = take_back (run done.next others) d (active_set s.board d) (wrote done lent n) in
    (back.reply ≡ Answers (Moved n)) × SameColours d back.next s × SameMap d back.next s

-- And whatever the domain calls from then on, it is told as if it had never recoloured.
abbrev pub TakingBackUnseen : Type 0
TakingBackUnseen =
    (start : State) → Accepted start → Empty start
    → (h : List Call) → let s = run start h in
    (d c : ℕ) (lent : List ℕ) (n : ℕ) → let done = recolour s d c lent in
    done.reply ≡ Answers (Moved n)
    → (others : List Call) → OfOthers d others
    → LookTheSame d (take_back (run done.next others) d (active_set s.board d) (wrote done lent n)).next s

-- With no call between, the very board and table are back.
abbrev pub TakingBackAtOnce : Type 0
TakingBackAtOnce =
    (start : State) → Accepted start → Empty start
    → (h : List Call) → let s = run start h in
    (d c : ℕ) (lent : List ℕ) (n : ℕ) → let done = recolour s d c lent in
    done.reply ≡ Answers (Moved n)
    → (take_back done.next d (active_set s.board d) (wrote done lent n)).next ≡ s
