-- Which calls and replies count in the accounts of frames (document 02, No. 14), constructor by constructor: an old frame, the moves of a recolouring or of its
-- taking back, and a refusal are neither a new frame nor one released.
use Rattle.std.specs.Prelude.{ℕ, Bool, true, false, eqb}
use Rattle.refusal.specs.Reply.{Reply, Answers, Refuses}
use Rattle.calls.specs.Calls.{Answer, Mapped, Unmapped, Old, New, Freed, Active, Moved, Quota}
use Rattle.isolation.specs.DomainRule.{Call, Look, Fault, Release, Colours, Recolour, SetQuota, TakeBack}

-- A reply that gives a new frame.
abbrev pub is_new : Reply Answer → Bool
is_new (Answers (Mapped f)) = false
is_new (Answers Unmapped) = false
is_new (Answers (Old f)) = false
is_new (Answers (New f)) = true
is_new (Answers (Freed f)) = false
is_new (Answers (Active c q)) = false
is_new (Answers (Moved k)) = false
is_new (Answers (Quota q)) = false
is_new (Refuses n r) = false

-- A reply that tells of a frame released.
abbrev pub is_freed : Reply Answer → Bool
is_freed (Answers (Mapped f)) = false
is_freed (Answers Unmapped) = false
is_freed (Answers (Old f)) = false
is_freed (Answers (New f)) = false
is_freed (Answers (Freed f)) = true
is_freed (Answers (Active c q)) = false
is_freed (Answers (Moved k)) = false
is_freed (Answers (Quota q)) = false
is_freed (Refuses n r) = false

-- Any answer at all: the call was accepted.
abbrev pub is_accepted : Reply Answer → Bool
is_accepted (Answers a) = true
is_accepted (Refuses n r) = false

-- The faults of domain d, and its releases.
abbrev pub is_fault : ℕ → Call → Bool
is_fault d (Look e p) = false
is_fault d (Fault e p) = eqb e d
is_fault d (Release e p) = false
is_fault d (Colours e) = false
is_fault d (Recolour e c list) = false
is_fault d (SetQuota e q) = false
is_fault d (TakeBack e c list) = false

abbrev pub is_release : ℕ → Call → Bool
is_release d (Look e p) = false
is_release d (Fault e p) = false
is_release d (Release e p) = eqb e d
is_release d (Colours e) = false
is_release d (Recolour e c list) = false
is_release d (SetQuota e q) = false
is_release d (TakeBack e c list) = false
