-- The number of each refusal and the row that it names: document 01, "Refusals in the order tested", and 02. A row is that of the domain or
-- of the plan's row at fault, and 0 where a refusal names none. A result of the code in these numbers is a reply.
use Rattle.std.specs.Prelude.{ℕ, Result, Ok, Err}
use Rattle.refusal.specs.Reply.{Reply, Answers, Refuses}
use Rattle.refusal.specs.declared.Refusal.{Refusal}
use Rattle.refusal.specs.declared.Refusal.TheVariants.{NotAPlan, Colours, Frames, Domains, Grant, SharedGrant, ActiveSet, CallingDomain, Set, Page, OtherColour, NoFreeFrame, ShortList, Unmapped, VcpuWords, TaskWords, VcpuRow, TaskRow, TaskOrder, SharedColour, LateVcpu, LateTask, BoardQuotas, Quota, AtQuota, Triples, FramesOutside}

abbrev pub number_of : Refusal → ℕ
number_of NotAPlan = 1
number_of Colours = 2
number_of Frames = 3
number_of Domains = 4
number_of (Grant d) = 5
number_of (SharedGrant d) = 6
number_of (ActiveSet d) = 7
number_of CallingDomain = 8
number_of Set = 9
number_of Page = 10
number_of OtherColour = 11
number_of NoFreeFrame = 12
number_of ShortList = 13
number_of Unmapped = 14
number_of VcpuWords = 15
number_of TaskWords = 16
number_of (VcpuRow i) = 17
number_of (TaskRow j) = 18
number_of (TaskOrder j) = 19
number_of (SharedColour j) = 20
number_of (LateVcpu i) = 21
number_of (LateTask j) = 22
number_of BoardQuotas = 26
number_of Quota = 27
number_of AtQuota = 28
number_of Triples = 31
number_of FramesOutside = 32

abbrev pub row_of : Refusal → ℕ
row_of NotAPlan = 0
row_of Colours = 0
row_of Frames = 0
row_of Domains = 0
row_of (Grant d) = d
row_of (SharedGrant d) = d
row_of (ActiveSet d) = d
row_of CallingDomain = 0
row_of Set = 0
row_of Page = 0
row_of OtherColour = 0
row_of NoFreeFrame = 0
row_of ShortList = 0
row_of Unmapped = 0
row_of VcpuWords = 0
row_of TaskWords = 0
row_of (VcpuRow i) = i
row_of (TaskRow j) = j
row_of (TaskOrder j) = j
row_of (SharedColour j) = j
row_of (LateVcpu i) = i
row_of (LateTask j) = j
row_of BoardQuotas = 0
row_of Quota = 0
row_of AtQuota = 0
row_of Triples = 0
row_of FramesOutside = 0

-- a result in the document's numbers: its answer as the document has it, or the refusal's number and row
abbrev pub reply_with : {A B : Type 0} → (A → B) → Result A Refusal → Reply B
reply_with answer (Ok a) = Answers (answer a)
reply_with answer (Err r) = Refuses (number_of r) (row_of r)

-- the same where the answer stands as it is
abbrev pub reply_of : {A : Type 0} → Result A Refusal → Reply A
reply_of (Ok a) = Answers a
reply_of (Err r) = Refuses (number_of r) (row_of r)
