-- The answers of look, fault and colours by what the paper calls them.
use Rattle.std.specs.Prelude.{ℕ, Option, Some, None}
use Rattle.calls.specs.Calls.{Answer, Mapped, Unmapped, Old, New, Active}
use Rattle.frames.specs.declared.mapping.Faulted.{Faulted}
use Rattle.frames.specs.declared.mapping.Faulted.TheVariants.{Old as FaultedOld, New as FaultedNew}
use Rattle.frames.specs.declared.active.ActiveColours.{ActiveColours}

-- the frame of a page that is looked up, or that it has none
abbrev pub paper_looked : Option ℕ → Answer
paper_looked (Some f) = Mapped f
paper_looked None = Unmapped

-- the frame of a page after a fault, old or new
abbrev pub paper_faulted : Faulted → Answer
paper_faulted (FaultedOld f) = Old f
paper_faulted (FaultedNew f) = New f

-- the active set and the quota
abbrev pub paper_active : ActiveColours → Answer
paper_active c = Active c.set c.quota
