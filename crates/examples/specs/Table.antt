-- The examples of document 01 marked m, in its order, those of document 02, the recorder's accident, the plan of `admit`, and the worked
-- examples of document 004.
use Rattle.std.specs.Prelude.{ℕ, List, [], ◌∷◌, ◌++◌, replicate}
use Rattle.refusal.specs.Reply.{Answers, Refuses}
use Rattle.board.specs.declared.Board.{Board}
use Rattle.board.specs.Tests.{first_quotas}
use Rattle.calls.specs.Table.{State}
use Rattle.calls.specs.Calls.{Move, Mapped, Old, New, Active, Moved, Quota}
use Rattle.isolation.specs.DomainRule.{Call, Look, Fault, Release, Colours, Recolour, SetQuota, TakeBack}
use Rattle.times.specs.FirstTime.{At}
use Rattle.examples.specs.Example.{Example, Cache, Layout, Bleach, Drop, Equation, ReplyAfter, MovesOf, ListAfter, TableAfter, Supply, VcpuTime, TaskTime, VcpuRounds, TaskRounds, Reloads, PairwiseTime, Admission}

abbrev pub sets : List ℕ
sets = 0x3 ∷ 0xC ∷ 0 ∷ 0 ∷ 0 ∷ 0 ∷ 0 ∷ 0 ∷ []

-- N 4, F 8, grants 0x3 and 0xC, active alike, empty table of zeros
abbrev pub recorder : State
recorder =
    record {
      board = record { colours = 4; frames = 8; domains = 2; grants = sets; active = sets; quotas = first_quotas };
      table = 0 ∷ 0 ∷ 0 ∷ 0 ∷ 0 ∷ 0 ∷ 0 ∷ 0 ∷ [];
    }

abbrev pub three_faults : List Call
three_faults = Fault 0 9 ∷ Fault 1 0 ∷ Fault 0 1 ∷ []

abbrev pub then_recoloured : List Call
then_recoloured = Fault 0 9 ∷ Fault 1 0 ∷ Fault 0 1 ∷ Recolour 0 0x1 (0 ∷ 0 ∷ 0 ∷ []) ∷ []

-- domain 1 fills its two colours; and with a quota of 2 two of its pages get frames, and then it gives colour 3 up
abbrev pub filled : List Call
filled = Fault 1 0 ∷ Fault 1 1 ∷ Fault 1 2 ∷ Fault 1 3 ∷ []

abbrev pub allotted : List Call
allotted = SetQuota 1 2 ∷ Fault 1 0 ∷ Fault 1 1 ∷ []

abbrev pub to_one_colour : Call
to_one_colour = Recolour 1 0x4 (0 ∷ 0 ∷ 0 ∷ 0 ∷ 0 ∷ 0 ∷ [])

abbrev pub then_narrowed : List Call
then_narrowed = allotted ++ (to_one_colour ∷ [])

-- others' calls after the recolouring; and the taking back, by the triple that was written and the set that was active before
abbrev pub then_others : List Call
then_others = then_recoloured ++ (Fault 1 3 ∷ SetQuota 1 2 ∷ [])

abbrev pub taken_back_lem : Call
taken_back_lem = TakeBack 0 0x3 (1 ∷ 1 ∷ 4 ∷ [])

-- the same board with other quotas of domains 0, 1 and 2, the last beyond the count; and a table on which domain 0 holds five frames, two of them for one
-- page and two outside its grant
abbrev pub with_quotas_lem : ℕ → ℕ → ℕ → State
with_quotas_lem p q r =
    record {
      board = record { colours = 4; frames = 8; domains = 2; grants = sets; active = sets; quotas = p ∷ q ∷ r ∷ replicate 5 4096 };
      table = 1 ∷ 1 ∷ 2 ∷ 0 ∷ 0 ∷ 65535 ∷ 4096 ∷ 4 ∷ [];
    }

-- N 4, F 12 and one domain with grant 0xF: its active set, and the table
abbrev pub alone : ℕ → List ℕ → State
alone set t =
    record {
      board =
          record {
            colours = 4;
            frames = 12;
            domains = 1;
            grants = 0xF ∷ 0 ∷ 0 ∷ 0 ∷ 0 ∷ 0 ∷ 0 ∷ 0 ∷ [];
            active = set ∷ 0 ∷ 0 ∷ 0 ∷ 0 ∷ 0 ∷ 0 ∷ 0 ∷ [];
            quotas = first_quotas;
          };
      table = t;
    }

-- three of the four colours are active, and nothing is held
abbrev pub three_colours : State
three_colours = alone 0x7 (0 ∷ 0 ∷ 0 ∷ 0 ∷ 0 ∷ 0 ∷ 0 ∷ 0 ∷ 0 ∷ 0 ∷ 0 ∷ 0 ∷ [])

abbrev pub six_faults : List Call
six_faults = Fault 0 0 ∷ Fault 0 1 ∷ Fault 0 2 ∷ Fault 0 3 ∷ Fault 0 4 ∷ Fault 0 5 ∷ []

-- frames 0, 1 and 5 become free
abbrev pub then_released : List Call
then_released = six_faults ++ (Release 0 0 ∷ Release 0 1 ∷ Release 0 4 ∷ [])

-- all four are active, frame 7 is reserved, and frames 0, 3 and 8 are to leave colours 0 and 3
abbrev pub uneven : State
uneven = alone 0xF (8 ∷ 1 ∷ 0 ∷ 6 ∷ 0 ∷ 2 ∷ 0 ∷ 65535 ∷ 7 ∷ 0 ∷ 3 ∷ 0 ∷ [])

abbrev pub to_the_middle : Call
to_the_middle = Recolour 0 0x6 (0 ∷ 0 ∷ 0 ∷ 0 ∷ 0 ∷ 0 ∷ 0 ∷ 0 ∷ 0 ∷ [])

abbrev pub from_the_middle : Call
from_the_middle = TakeBack 0 0xF (7 ∷ 0 ∷ 2 ∷ 5 ∷ 3 ∷ 9 ∷ 6 ∷ 8 ∷ 6 ∷ [])

-- a page in two frames, 4 and 7, and one each in frames 0 and 11, all of them outside colours 1 and 2; of these frames 2 and 6 are reserved
abbrev pub page_twice : State
page_twice = alone 0xF (10 ∷ 0 ∷ 65535 ∷ 0 ∷ 5 ∷ 0 ∷ 65535 ∷ 5 ∷ 0 ∷ 0 ∷ 0 ∷ 3 ∷ [])

abbrev pub four_to_the_middle : Call
four_to_the_middle = Recolour 0 0x6 (20 ∷ 21 ∷ 22 ∷ 23 ∷ 24 ∷ 25 ∷ 26 ∷ 27 ∷ 28 ∷ 29 ∷ 30 ∷ 31 ∷ 32 ∷ 33 ∷ [])

abbrev pub moved : ℕ → ℕ → ℕ → Move
moved p f g = record { page = p; source = f; target = g }

abbrev pub example_grant : List ℕ
example_grant = 0xFF ∷ 0 ∷ 0 ∷ 0 ∷ 0 ∷ 0 ∷ 0 ∷ 0 ∷ []

-- the board that document 01 gives the program `admit`: N 16, F 64 and one domain with 255
abbrev pub planned : Board
planned = record { colours = 16; frames = 64; domains = 1; grants = example_grant; active = example_grant; quotas = first_quotas }

-- the same with a quota of 0, which admission does not test
abbrev pub planned_without_quota : Board
planned_without_quota = record { colours = 16; frames = 64; domains = 1; grants = example_grant; active = example_grant; quotas = replicate 8 0 }

-- one VCPU on core 0 in domain 0: period and budget
abbrev pub vcpu : ℕ → ℕ → List ℕ
vcpu p q = 0 ∷ 0 ∷ p ∷ q ∷ []

-- P = Q = 10,000
abbrev pub whole_core : List ℕ
whole_core = vcpu 10000 10000

-- a task of VCPU 0: period, deadline, set, and a cost that is the same for any count of colours
abbrev pub task : ℕ → ℕ → ℕ → ℕ → List ℕ
task period deadline set c = 0 ∷ period ∷ deadline ∷ set ∷ c ∷ c ∷ c ∷ c ∷ c ∷ c ∷ c ∷ c ∷ c ∷ c ∷ c ∷ c ∷ c ∷ c ∷ c ∷ c ∷ []

-- three tasks of period and deadline 10,000, no shared colours: the third cost
abbrev pub three_tasks : ℕ → List ℕ
three_tasks c = task 10000 10000 0x1 4000 ++ (task 10000 10000 0x2 4000 ++ task 10000 10000 0x4 c)

-- sets 0x3 and 0x6: the second cost
abbrev pub two_tasks : ℕ → List ℕ
two_tasks c = task 4000 4000 0x3 1000 ++ task 10000 10000 0x6 c

-- sets 0x1, 0x1 and 0x2: three costs of 1,000
abbrev pub nested_tasks : List ℕ
nested_tasks = task 10000 10000 0x1 1000 ++ (task 10000 10000 0x1 1000 ++ task 10000 10000 0x2 1000)

unfoldable pub examples : List Example
examples =
    Cache 1048576 16 (Answers 16)
    ∷ Cache 2097152 16 (Refuses 2 0)
    ∷ Layout 16 0x00F0 6 (Answers 22)
    ∷ Bleach 16 0x00F0 22 (Answers 6)
    ∷ Layout 16 0x0005 3 (Answers 18)
    ∷ Bleach 16 0x0005 17 (Refuses 11 0)
    ∷ Bleach 16 0x8000 0x5FFFFF (Answers 0x5FFFF)
    ∷ ReplyAfter recorder [] (Fault 0 9) (Answers (New 0))
    ∷ ReplyAfter recorder (Fault 0 9 ∷ []) (Fault 1 0) (Answers (New 2))
    ∷ ReplyAfter recorder (Fault 0 9 ∷ Fault 1 0 ∷ []) (Fault 0 1) (Answers (New 1))
    ∷ ReplyAfter recorder three_faults (Recolour 0 0x1 (0 ∷ 0 ∷ 0 ∷ [])) (Answers (Moved 1))
    ∷ MovesOf recorder three_faults (Recolour 0 0x1 (0 ∷ 0 ∷ 0 ∷ [])) (record { page = 1; source = 1; target = 4 } ∷ [])
    ∷ TableAfter recorder then_recoloured (10 ∷ 0 ∷ 4097 ∷ 0 ∷ 2 ∷ 0 ∷ 0 ∷ 0 ∷ [])
    ∷ ReplyAfter recorder then_recoloured (Fault 0 2) (Refuses 12 0)
    -- P 5,000, Q 3,000, and a lone task of cost 3,000
    ∷ Supply 5000 3000 4000 0
    ∷ Supply 5000 3000 6999 2999
    ∷ Supply 5000 3000 7000 3000
    ∷ Supply 5000 3000 9000 3000
    ∷ Admission planned 0 (vcpu 5000 3000) (task 10000 7000 0x1 3000) 2 (Answers tt)
    ∷ Admission planned 0 (vcpu 5000 3000) (task 10000 6999 0x1 3000) 2 (Refuses 22 0)
    -- three tasks that want 11 ms of every 10, and 10 ms of every 10
    ∷ Admission planned 0 whole_core (three_tasks 3000) 4 (Refuses 22 2)
    ∷ TaskTime 0 whole_core (three_tasks 2000) 2 (At 10000)
    -- the reload of a shared colour
    ∷ TaskTime 100 whole_core (two_tasks 2500) 1 (At 3600)
    ∷ TaskTime 100 whole_core (two_tasks 3000) 1 (At 5200)
    ∷ TaskTime 0 whole_core (two_tasks 3000) 1 (At 4000)
    -- document 02, No. 3: the third task shares no colour with the first, but the second does; the pairwise rule forgot that
    ∷ Reloads nested_tasks 2 0 1
    ∷ Reloads nested_tasks 2 1 0
    ∷ TaskTime 100 whole_core nested_tasks 2 (At 3100)
    ∷ PairwiseTime 10000 10000 100 nested_tasks 2 (At 3000)
    -- document 02, No. 7: six pages get frames 0, 1, 2, 4, 5 and 6, two of each active colour. Once the first of colour 0 and both of colour 1 are free
    -- again, three pages get frames 1, 0 and 5: the domain holds none of colour 1, then one each of colours 0 and 1, of which the lower comes first. The
    -- lowest free frames would be 0, 1 and 5
    ∷ TableAfter three_colours six_faults (1 ∷ 2 ∷ 3 ∷ 0 ∷ 4 ∷ 5 ∷ 6 ∷ 0 ∷ 0 ∷ 0 ∷ 0 ∷ 0 ∷ [])
    ∷ ReplyAfter three_colours then_released (Fault 0 6) (Answers (New 1))
    ∷ ReplyAfter three_colours (then_released ++ (Fault 0 6 ∷ [])) (Fault 0 7) (Answers (New 0))
    ∷ ReplyAfter three_colours (then_released ++ (Fault 0 6 ∷ Fault 0 7 ∷ [])) (Fault 0 8) (Answers (New 5))
    -- a recolouring counts the frames that it has moved: the domain holds 2 and 1 of colours 1 and 2, then 2 and 2, then 3 and 2. The lowest free frames
    -- would be 2, 6 and 9
    ∷ ReplyAfter uneven [] to_the_middle (Answers (Moved 3))
    ∷ MovesOf uneven [] to_the_middle (moved 5 3 9 ∷ moved 6 8 6 ∷ moved 7 0 2 ∷ [])
    ∷ TableAfter uneven (to_the_middle ∷ []) (0 ∷ 1 ∷ 8 ∷ 0 ∷ 0 ∷ 2 ∷ 7 ∷ 65535 ∷ 0 ∷ 6 ∷ 3 ∷ 0 ∷ [])
    -- document 02, No. 4: frames 0, 4, 7 and 11 go, in this order, to frame 1, since none is held of colours 1 and 2; to frame 10, the only free one of
    -- colour 2; then to 5 and 9. The triples stand by page, those of page 4 by old frame though the new frames stand the other way round, and the two
    -- words past them do not change
    ∷ MovesOf page_twice [] four_to_the_middle (moved 2 11 9 ∷ moved 4 4 10 ∷ moved 4 7 5 ∷ moved 9 0 1 ∷ [])
    ∷ ListAfter page_twice [] four_to_the_middle (2 ∷ 11 ∷ 9 ∷ 4 ∷ 4 ∷ 10 ∷ 4 ∷ 7 ∷ 5 ∷ 9 ∷ 0 ∷ 1 ∷ 32 ∷ 33 ∷ [])
    ∷ TableAfter page_twice (four_to_the_middle ∷ []) (0 ∷ 10 ∷ 65535 ∷ 0 ∷ 0 ∷ 5 ∷ 65535 ∷ 0 ∷ 0 ∷ 3 ∷ 5 ∷ 0 ∷ [])
    -- where it is refused no word of the list changes
    ∷ ReplyAfter page_twice [] (Recolour 0 0x4 (20 ∷ 21 ∷ 22 ∷ [])) (Refuses 12 0)
    ∷ ListAfter page_twice [] (Recolour 0 0x4 (20 ∷ 21 ∷ 22 ∷ [])) (20 ∷ 21 ∷ 22 ∷ [])
    -- document 02, No. 6: a guest that filled its colours cannot recolour to one of them; with a quota of 2 a third page is refused, one that is mapped is
    -- not, and the recolouring goes on, whatever the quota. Then the quota is reached and no frame is free, of which 28 comes first
    ∷ ReplyAfter recorder filled to_one_colour (Refuses 12 0)
    ∷ ReplyAfter recorder [] (SetQuota 1 2) (Answers (Quota 2))
    ∷ ReplyAfter recorder allotted (Fault 1 2) (Refuses 28 0)
    ∷ ReplyAfter recorder allotted (Fault 1 1) (Answers (Old 3))
    ∷ ReplyAfter recorder allotted (Colours 1) (Answers (Active 0xC 2))
    ∷ ReplyAfter recorder allotted (Colours 0) (Answers (Active 0x3 4096))
    ∷ ReplyAfter recorder allotted to_one_colour (Answers (Moved 1))
    ∷ TableAfter recorder then_narrowed (0 ∷ 0 ∷ 4097 ∷ 0 ∷ 0 ∷ 0 ∷ 4098 ∷ 0 ∷ [])
    ∷ ReplyAfter recorder then_narrowed (Fault 1 2) (Refuses 28 0)
    ∷ ReplyAfter recorder (then_narrowed ++ (SetQuota 1 3 ∷ [])) (Fault 1 2) (Refuses 12 0)
    -- a quota below the frames held is refused, that of the frames held is not; it may exceed F, but neither 4,096 nor be 0; it is asked for by a domain
    ∷ ReplyAfter recorder allotted (SetQuota 1 1) (Refuses 27 0)
    ∷ ReplyAfter recorder allotted (SetQuota 1 2) (Answers (Quota 2))
    ∷ ReplyAfter recorder [] (SetQuota 0 4096) (Answers (Quota 4096))
    ∷ ReplyAfter recorder [] (SetQuota 0 4097) (Refuses 27 0)
    ∷ ReplyAfter recorder [] (SetQuota 0 0) (Refuses 27 0)
    ∷ ReplyAfter recorder [] (SetQuota 2 1) (Refuses 8 0)
    -- held are all frames with a word of the domain: five here, of which one is a page's second and two lie outside the grant
    ∷ ReplyAfter (with_quotas_lem 5 1 1) [] (SetQuota 0 4) (Refuses 27 0)
    ∷ ReplyAfter (with_quotas_lem 5 1 1) [] (SetQuota 0 5) (Answers (Quota 5))
    ∷ ReplyAfter (with_quotas_lem 5 1 1) [] (Fault 0 2) (Refuses 28 0)
    ∷ ReplyAfter (with_quotas_lem 6 1 1) [] (Fault 0 2) (Answers (New 4))
    ∷ ReplyAfter (with_quotas_lem 1 1 1) [] (Fault 0 1) (Answers (Old 2))
    -- a quota of 0 or above 4,096 stops every call, before 8, but for one beyond the count; admission does not ask
    ∷ ReplyAfter (with_quotas_lem 4096 0 1) [] (Look 0 0) (Refuses 26 0)
    ∷ ReplyAfter (with_quotas_lem 4097 1 1) [] (Look 7 0) (Refuses 26 0)
    ∷ ReplyAfter (with_quotas_lem 4096 1 0) [] (Colours 1) (Answers (Active 0xC 1))
    ∷ Admission planned_without_quota 100 whole_core (two_tasks 3000) 3 (Answers tt)
    -- document 02, No. 10: after document 01's recolouring, whatever domain 1 does, page 1 goes back from frame 4 to frame 1, and 0x3 is active again. The
    -- list is only read, and the quota plays no part
    ∷ TableAfter recorder then_others (10 ∷ 0 ∷ 4097 ∷ 4100 ∷ 2 ∷ 0 ∷ 0 ∷ 0 ∷ [])
    ∷ ReplyAfter recorder then_others (Colours 0) (Answers (Active 0x1 4096))
    ∷ ReplyAfter recorder then_others taken_back_lem (Answers (Moved 1))
    ∷ ListAfter recorder then_others taken_back_lem (1 ∷ 1 ∷ 4 ∷ [])
    ∷ MovesOf recorder then_others taken_back_lem []
    ∷ TableAfter recorder (then_others ++ (taken_back_lem ∷ [])) (10 ∷ 2 ∷ 4097 ∷ 4100 ∷ 0 ∷ 0 ∷ 0 ∷ 0 ∷ [])
    ∷ ReplyAfter recorder (then_others ++ (taken_back_lem ∷ [])) (Colours 0) (Answers (Active 0x3 4096))
    ∷ ReplyAfter recorder (then_others ++ (taken_back_lem ∷ [])) (Look 0 1) (Answers (Mapped 1))
    ∷ ReplyAfter recorder (then_recoloured ++ (SetQuota 0 2 ∷ [])) taken_back_lem (Answers (Moved 1))
    -- once more, and frame 4 has no word for page 1
    ∷ ReplyAfter recorder (then_others ++ (taken_back_lem ∷ [])) taken_back_lem (Refuses 31 0)
    -- a page of the list that was released: its frame is free, it is unmapped, and the list does not fit any more
    ∷ TableAfter recorder (then_others ++ (Release 0 1 ∷ [])) (10 ∷ 0 ∷ 4097 ∷ 4100 ∷ 0 ∷ 0 ∷ 0 ∷ 0 ∷ [])
    ∷ ReplyAfter recorder (then_others ++ (Release 0 1 ∷ [])) (Release 0 1) (Refuses 14 0)
    ∷ ReplyAfter recorder (then_others ++ (Release 0 1 ∷ [])) taken_back_lem (Refuses 31 0)
    -- the triples may stand in any order, and a page may have the number of a frame; an empty list moves nothing; page 4,095 is a page
    ∷ ReplyAfter uneven (to_the_middle ∷ []) from_the_middle (Answers (Moved 3))
    ∷ TableAfter uneven (to_the_middle ∷ from_the_middle ∷ []) (8 ∷ 1 ∷ 0 ∷ 6 ∷ 0 ∷ 2 ∷ 0 ∷ 65535 ∷ 7 ∷ 0 ∷ 3 ∷ 0 ∷ [])
    ∷ ReplyAfter recorder then_others (TakeBack 0 0x3 []) (Answers (Moved 0))
    ∷ ReplyAfter recorder (then_others ++ (TakeBack 0 0x3 [] ∷ [])) (Colours 0) (Answers (Active 0x3 4096))
    ∷ ReplyAfter recorder (Fault 0 4095 ∷ []) (TakeBack 0 0x2 (4095 ∷ 1 ∷ 0 ∷ [])) (Answers (Moved 1))
    -- words that are no triples; page 4,096, whose word is that of domain 1 for page 0; frame 8, which is F; an old frame that is held or outside the former
    -- set; a new frame with another page
    ∷ ReplyAfter recorder then_others (TakeBack 0 0x3 (1 ∷ 1 ∷ [])) (Refuses 31 0)
    ∷ ReplyAfter recorder then_others (TakeBack 0 0x3 (1 ∷ 1 ∷ 4 ∷ 9 ∷ [])) (Refuses 31 0)
    ∷ ReplyAfter recorder then_others (TakeBack 0 0x3 (4096 ∷ 1 ∷ 2 ∷ [])) (Refuses 31 0)
    ∷ ReplyAfter recorder then_others (TakeBack 0 0x3 (1 ∷ 8 ∷ 4 ∷ [])) (Refuses 31 0)
    ∷ ReplyAfter recorder then_others (TakeBack 0 0x3 (1 ∷ 1 ∷ 8 ∷ [])) (Refuses 31 0)
    ∷ ReplyAfter recorder then_others (TakeBack 0 0x3 (1 ∷ 0 ∷ 4 ∷ [])) (Refuses 31 0)
    ∷ ReplyAfter recorder then_others (TakeBack 0 0x1 (1 ∷ 1 ∷ 4 ∷ [])) (Refuses 31 0)
    ∷ ReplyAfter recorder then_others (TakeBack 0 0x3 (9 ∷ 1 ∷ 4 ∷ [])) (Refuses 31 0)
    -- frame 1 twice, of two triples that fit; frame 4 twice
    ∷ ReplyAfter recorder then_others (TakeBack 0 0x3 (1 ∷ 1 ∷ 4 ∷ 9 ∷ 1 ∷ 0 ∷ [])) (Refuses 31 0)
    ∷ ReplyAfter recorder then_others (TakeBack 0 0x3 (1 ∷ 1 ∷ 4 ∷ 1 ∷ 5 ∷ 4 ∷ [])) (Refuses 31 0)
    -- frame 0 would lie outside 0x2. It may be moved too: 32 looks after the moves
    ∷ ReplyAfter recorder then_others (TakeBack 0 0x2 (1 ∷ 1 ∷ 4 ∷ [])) (Refuses 32 0)
    ∷ ReplyAfter recorder then_others (TakeBack 0 0x2 (1 ∷ 1 ∷ 4 ∷ 9 ∷ 5 ∷ 0 ∷ [])) (Answers (Moved 2))
    -- 26 and 8 before 9, 9 before 31, 31 before 32
    ∷ ReplyAfter (with_quotas_lem 4096 0 1) [] (TakeBack 2 0 (1 ∷ [])) (Refuses 26 0)
    ∷ ReplyAfter recorder then_others (TakeBack 2 0 (1 ∷ [])) (Refuses 8 0)
    ∷ ReplyAfter recorder then_others (TakeBack 0 0x4 (1 ∷ [])) (Refuses 9 0)
    ∷ ReplyAfter recorder then_others (TakeBack 0 0 (1 ∷ [])) (Refuses 9 0)
    ∷ ReplyAfter recorder then_others (TakeBack 0 0x2 (1 ∷ [])) (Refuses 31 0)
    -- document 02, No. 9, in document 01's examples by the millisecond: the round that ends the search counts, at the time or past the deadline, and with
    -- cost 1 under full supply it is the only one
    ∷ VcpuRounds (vcpu 10 10) 0 2 2
    ∷ TaskRounds 0 (vcpu 10 10) (task 10 10 0x1 1) 0 1 2
    ∷ TaskRounds 0 (vcpu 10 10) (task 10 10 0x1 2) 0 2 2
    ∷ TaskRounds 0 (vcpu 5 3) (task 10 7 0x1 3) 0 2 2
    ∷ TaskRounds 0 (vcpu 10 10) (task 10 10 0x1 4 ++ (task 10 10 0x2 4 ++ task 10 10 0x4 3)) 2 1 2
    -- the reload of a shared colour, by the tenth of a millisecond: 1, 41 and 52
    ∷ TaskRounds 1 (vcpu 100 100) (task 40 40 0x3 10 ++ task 100 100 0x6 30) 1 3 4
    -- an earlier row that takes 9 of every 10 microseconds: the bound is reached
    ∷ VcpuRounds (vcpu 10 9 ++ vcpu 100 10) 1 11 11
    ∷ TaskRounds 0 (vcpu 100 100) (task 10 10 0x1 9 ++ task 100 100 0x2 10) 1 11 11
    -- one that takes every microsecond: late, after as many rounds as the deadline has microseconds
    ∷ TaskRounds 0 (vcpu 100 100) (task 1 1 0x1 1 ++ task 100 20 0x2 1) 1 20 21
    -- of the recorder's accident, beyond document 01: each of the three tasks that are refused together above is admitted alone
    ∷ Admission planned 0 whole_core (task 10000 10000 0x1 4000) 2 (Answers tt)
    ∷ Admission planned 0 whole_core (task 10000 10000 0x2 4000) 2 (Answers tt)
    ∷ Admission planned 0 whole_core (task 10000 10000 0x4 3000) 2 (Answers tt)
    -- document 01's plan for `admit`, which carries no m there
    ∷ VcpuTime whole_core 0 (At 10000)
    ∷ TaskTime 100 whole_core (two_tasks 3000) 0 (At 1000)
    ∷ Admission planned 100 whole_core (two_tasks 3000) 3 (Answers tt)
    -- 004: the pages of [2, 3], of which 0x22 is the fifth; equation (1) with its factor mended says so
    ∷ Layout 16 0x000C 0 (Answers 0x02)
    ∷ Layout 16 0x000C 1 (Answers 0x03)
    ∷ Layout 16 0x000C 2 (Answers 0x12)
    ∷ Layout 16 0x000C 3 (Answers 0x13)
    ∷ Layout 16 0x000C 4 (Answers 0x22)
    ∷ Bleach 16 0x000C 0x22 (Answers 0x04)
    ∷ Equation 16 2 3 0 0x22 0x04
    -- 004: [8, 11] has pages 0x08 to 0x0B, 0x18 to 0x1B and 0x28 to 0x2B, of which 0x29 is the tenth; two bits are dropped
    ∷ Layout 16 0x0F00 0 (Answers 0x08)
    ∷ Layout 16 0x0F00 4 (Answers 0x18)
    ∷ Layout 16 0x0F00 11 (Answers 0x2B)
    ∷ Bleach 16 0x0F00 0x29 (Answers 0x09)
    ∷ Drop 4 2 0x29 0x09
    -- 004: [15, 15] drops all four colour bits, by pages from the base
    ∷ Drop 4 0 0x5FFFFF 0x5FFFF
    ∷ []
