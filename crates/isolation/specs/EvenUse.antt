-- Even use of colours, for a planner: document 02, No. 7. In a history in which a domain has not released, recoloured or taken a recolouring back,
-- whatever others did, it holds at most one frame more in one active colour than in another that still has a free frame. This is why twelve
-- frames of six colours stand two by two.
use Rattle.std.specs.Prelude.{ℕ, ◌+◌, ◌<◌, ◌≤◌, Bool, true, false, List, [], ◌∷◌, ◌≡◌}
use Rattle.refusal.specs.Reply.{Reply, Answers, Refuses}
use Rattle.colours.specs.Sets.{has}
use Rattle.board.specs.Tests.{active_set}
use Rattle.calls.specs.Table.{State, has_word, is_held}
use Rattle.calls.specs.FrameChoice.{in_colour}
use Rattle.calls.specs.Calls.{Answer, Mapped, Unmapped, Old, New, Freed, Active, Moved, Quota}
use Rattle.isolation.specs.DomainRule.{Call, names, outcome, run, Accepted, Empty}

-- The reply of a release, a recolouring or a taking back that was done. A refused one does nothing, so it may stand in the history.
abbrev pub freed_or_moved : Reply Answer → Bool
freed_or_moved (Answers (Mapped f)) = false
freed_or_moved (Answers Unmapped) = false
freed_or_moved (Answers (Old f)) = false
freed_or_moved (Answers (New f)) = false
freed_or_moved (Answers (Freed f)) = true
freed_or_moved (Answers (Active c q)) = false
freed_or_moved (Answers (Moved k)) = true
freed_or_moved (Answers (Quota q)) = false
freed_or_moved (Refuses n r) = false

-- Domain d has not released, recoloured or taken a recolouring back in a history from s.
abbrev pub KeptAll : ℕ → State → List Call → Type 0
KeptAll d s [] = Unit {0}
KeptAll d s (c ∷ cs) = (names c ≡ d → freed_or_moved (outcome s c).reply ≡ false) × KeptAll d (outcome s c).next cs

-- Colour x is active for domain d, so many frames of colour x are free, and so many of them d holds.
abbrev pub is_active : State → ℕ → ℕ → Bool
is_active s d x = has (active_set s.board d) x

abbrev pub free_in : State → ℕ → ℕ
free_in s x = in_colour s.board.colours s.board.frames (has_word s.table 0) x

abbrev pub held_in : State → ℕ → ℕ → ℕ
held_in s d x = in_colour s.board.colours s.board.frames (is_held s.table d) x

-- For any two active colours x and y of domain d, where x still has a free frame, it holds at most one frame more in y than in x.
abbrev pub Even : ℕ → State → Type 0
Even d s = (x y : ℕ) → is_active s d x ≡ true → is_active s d y ≡ true → 0 < free_in s x → held_in s d y ≤ held_in s d x + 1

abbrev pub EvenUse : Type 0
EvenUse =
    (start : State) → Accepted start → Empty start
    → (d : ℕ) → d < start.board.domains
    → (h : List Call) → KeptAll d start h
    → Even d (run start h)
