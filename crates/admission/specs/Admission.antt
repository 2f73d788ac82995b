-- Admission of a plan: document 01, refusals 2 to 7 and 15 to 22 in order, and the two lent lists: the times of VCPUs, then of tasks, and their
-- rounds (document 02, No. 9) in the same order, the rest as before.
use Rattle.std.specs.Prelude.{ℕ, min, Bool, true, false, List, ◌++◌, map, length, drop}
use Rattle.lists.specs.Range.{upto}
use Rattle.refusal.specs.Reply.{Reply, Answers, Refuses, Test, each, unless}
use Rattle.board.specs.declared.Board.{Board}
use Rattle.board.specs.Tests.{board_tests}
use Rattle.rows.specs.RowWords.{vcpu_rows, task_rows}
use Rattle.plan.specs.Tests.{plan_tests}
use Rattle.times.specs.FirstTime.{Time, At, Late}
use Rattle.times.specs.Times.{task_time, vcpu_time}
use Rattle.times.specs.Rounds.{task_rounds, vcpu_rounds}

abbrev pub is_late : Time → Bool
is_late (At t) = false
is_late Late = true

abbrev pub microseconds : Time → ℕ
microseconds (At t) = t
microseconds Late = 0

-- 21: a VCPU has no time up to its period. 22: a task has no time up to its deadline
unfoldable pub time_tests : ℕ → List ℕ → List ℕ → List Test
time_tests reload vcpus tasks =
    each (vcpu_rows vcpus) 21 (λ (i : ℕ). is_late (vcpu_time vcpus i))
    ++ each (task_rows tasks) 22 (λ (j : ℕ). is_late (task_time reload vcpus tasks j))

-- the room of the lists of times and of rounds is that of the shorter
abbrev pub room_of : List ℕ → List ℕ → ℕ
room_of times rounds = min (length times) (length rounds)

-- without a frame table, 3 is about F alone
unfoldable pub admission_reply : Board → ℕ → List ℕ → List ℕ → ℕ → Reply (Unit {0})
admission_reply b reload vcpus tasks room =
    unless (board_tests b b.frames ++ (plan_tests b reload vcpus tasks room ++ time_tests reload vcpus tasks)) tt

-- the times of all rows
unfoldable pub vcpu_times : List ℕ → List ℕ
vcpu_times vcpus = map (λ (i : ℕ). microseconds (vcpu_time vcpus i)) (upto (vcpu_rows vcpus))

unfoldable pub task_times : ℕ → List ℕ → List ℕ → List ℕ
task_times reload vcpus tasks = map (λ (j : ℕ). microseconds (task_time reload vcpus tasks j)) (upto (task_rows tasks))

unfoldable pub all_times : ℕ → List ℕ → List ℕ → List ℕ
all_times reload vcpus tasks = vcpu_times vcpus ++ task_times reload vcpus tasks

-- the rounds of all rows
unfoldable pub all_rounds : ℕ → List ℕ → List ℕ → List ℕ
all_rounds reload vcpus tasks = map (vcpu_rounds vcpus) (upto (vcpu_rows vcpus)) ++ map (task_rounds reload vcpus tasks) (upto (task_rows tasks))

-- a lent list after a reply: the numbers at its front, or as it was
abbrev pub list_after : Reply (Unit {0}) → List ℕ → List ℕ → List ℕ
list_after (Answers a) numbers lent = numbers ++ drop (length numbers) lent
list_after (Refuses n r) numbers lent = lent

-- what admission comes to: its reply, and the lists of times and of rounds that it leaves
pub record Judged : Type 0 where
  pub reply : Reply (Unit {0})
  pub times : List ℕ
  pub rounds : List ℕ

abbrev pub leaving : Reply (Unit {0}) → List ℕ → List ℕ → Judged
leaving reply times rounds = record { reply = reply; times = times; rounds = rounds }

-- by a reply to a plan, and by that of admission
abbrev pub judged_by : Reply (Unit {0}) → ℕ → List ℕ → List ℕ → List ℕ → List ℕ → Judged
judged_by reply reload vcpus tasks times rounds =
    leaving reply (list_after reply (all_times reload vcpus tasks) times) (list_after reply (all_rounds reload vcpus tasks) rounds)

unfoldable pub judged : Board → ℕ → List ℕ → List ℕ → List ℕ → List ℕ → Judged
judged b reload vcpus tasks times rounds = judged_by (admission_reply b reload vcpus tasks (room_of times rounds)) reload vcpus tasks times rounds
