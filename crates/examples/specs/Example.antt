-- What an example says: an operation, its numbers and the reply that the document states. It holds where the definition gives that reply.
use Rattle.std.specs.Prelude.{ℕ, Bool, true, false, ◌&&◌, List, [], ◌∷◌, eqb}
use Rattle.refusal.specs.Reply.{Reply, Answers, Refuses}
use Rattle.board.specs.declared.Board.{Board}
use Rattle.calls.specs.Table.{State}
use Rattle.calls.specs.Calls.{Answer, Mapped, Unmapped, Old, New, Freed, Active, Moved, Quota, Move, triples}
use Rattle.isolation.specs.DomainRule.{Call, outcome, run, told}
use Rattle.colours.specs.Cache.{cache_reply}
use Rattle.colours.specs.Pages.{layout_reply, bleach_reply, drop_bits, equation_one}
use Rattle.supply.specs.Supply.{supply}
use Rattle.times.specs.FirstTime.{Time, At, Late}
use Rattle.rows.specs.Reload.{reloaded}
use Rattle.times.specs.Times.{task_time, vcpu_time}
use Rattle.times.specs.Rounds.{task_rounds, vcpu_rounds, task_bound, vcpu_bound}
use Rattle.times.specs.Pairwise.{pairwise_time}
use Rattle.admission.specs.Admission.{admission_reply}

pub data Example : Type 0 where
  -- bytes and ways: the number of colours
  Cache : ℕ → ℕ → Reply ℕ → Example
  -- N, set and index: the page
  Layout : ℕ → ℕ → ℕ → Reply ℕ → Example
  -- N, set and page: the index
  Bleach : ℕ → ℕ → ℕ → Reply ℕ → Example
  -- colour bits, bits kept and page: the page without the bits between
  Drop : ℕ → ℕ → ℕ → ℕ → Example
  -- C, C_l, C_h, base B and page A of equation (1) in document 004: the bleached page
  Equation : ℕ → ℕ → ℕ → ℕ → ℕ → ℕ → Example
  -- a start, a history and a call after it: the reply
  ReplyAfter : State → List Call → Call → Reply Answer → Example
  -- a start, a history and a call after it: its moves, and the words of its move list
  MovesOf : State → List Call → Call → List Move → Example
  ListAfter : State → List Call → Call → List ℕ → Example
  -- a start and a history: the table that it leaves
  TableAfter : State → List Call → List ℕ → Example
  -- period, budget and t: the least supply in t
  Supply : ℕ → ℕ → ℕ → ℕ → Example
  -- VCPU rows and a row: its time
  VcpuTime : List ℕ → ℕ → Time → Example
  -- reload, VCPU rows, task rows and a row of these: its time
  TaskTime : ℕ → List ℕ → List ℕ → ℕ → Time → Example
  -- VCPU rows and a row: the rounds of its search, and their bound
  VcpuRounds : List ℕ → ℕ → ℕ → ℕ → Example
  -- reload, VCPU rows, task rows and a row of these: the rounds of its search, and their bound
  TaskRounds : ℕ → List ℕ → List ℕ → ℕ → ℕ → ℕ → Example
  -- task rows, a row and an earlier one: how many colours an arrival of this one reloads
  Reloads : List ℕ → ℕ → ℕ → ℕ → Example
  -- period and budget of a VCPU, reload, its task rows and one of them: its time by the pairwise rule
  PairwiseTime : ℕ → ℕ → ℕ → List ℕ → ℕ → Time → Example
  -- board, reload, VCPU rows, task rows and the length of the shorter list, of times or of rounds: the reply
  Admission : Board → ℕ → List ℕ → List ℕ → ℕ → Reply (Unit {0}) → Example

unfoldable pub same_reply : Reply ℕ → Reply ℕ → Bool
same_reply (Answers a) (Answers b) = eqb a b
same_reply (Answers a) (Refuses m q) = false
same_reply (Refuses n r) (Answers b) = false
same_reply (Refuses n r) (Refuses m q) = eqb n m && eqb r q

-- two lists of numbers, word by word
unfoldable pub same_list : List ℕ → List ℕ → Bool
same_list [] [] = true
same_list [] (y ∷ ys) = false
same_list (x ∷ xs) [] = false
same_list (x ∷ xs) (y ∷ ys) = eqb x y && same_list xs ys

-- a reply of a call as numbers: which answer it is, and its numbers
unfoldable pub numbers : Reply Answer → List ℕ
numbers (Answers (Mapped f)) = 1 ∷ f ∷ []
numbers (Answers Unmapped) = 2 ∷ []
numbers (Answers (Old f)) = 3 ∷ f ∷ []
numbers (Answers (New f)) = 4 ∷ f ∷ []
numbers (Answers (Freed f)) = 5 ∷ f ∷ []
numbers (Answers (Active s q)) = 6 ∷ s ∷ q ∷ []
numbers (Answers (Moved n)) = 7 ∷ n ∷ []
numbers (Answers (Quota q)) = 8 ∷ q ∷ []
numbers (Refuses n r) = 0 ∷ n ∷ r ∷ []

-- a time, or late, as numbers
unfoldable pub time_numbers : Time → List ℕ
time_numbers (At t) = t ∷ []
time_numbers Late = []

-- a reply of admission as numbers: none where the plan is admitted
unfoldable pub admission_numbers : Reply (Unit {0}) → List ℕ
admission_numbers (Answers a) = []
admission_numbers (Refuses n r) = n ∷ r ∷ []

unfoldable pub holds : Example → Bool
holds (Cache b w r) = same_reply (cache_reply b w) r
holds (Layout n s i r) = same_reply (layout_reply n s i) r
holds (Bleach n s p r) = same_reply (bleach_reply n s p) r
holds (Drop m k p q) = eqb (drop_bits m k p) q
holds (Equation c l h b a q) = eqb (equation_one c l h b a) q
holds (ReplyAfter s h c r) = same_list (numbers (outcome (run s h) c).reply) (numbers r)
holds (MovesOf s h c ms) = same_list (triples (outcome (run s h) c).moves) (triples ms)
holds (ListAfter s h c ws) = same_list (told (run s h) c).list ws
holds (TableAfter s h t) = same_list (run s h).table t
holds (Supply p q t x) = eqb (supply p q t) x
holds (VcpuTime vcpus i time) = same_list (time_numbers (vcpu_time vcpus i)) (time_numbers time)
holds (TaskTime reload vcpus tasks j time) = same_list (time_numbers (task_time reload vcpus tasks j)) (time_numbers time)
holds (VcpuRounds vcpus i n most) = eqb (vcpu_rounds vcpus i) n && eqb (vcpu_bound vcpus i) most
holds (TaskRounds reload vcpus tasks j n most) = eqb (task_rounds reload vcpus tasks j) n && eqb (task_bound tasks j) most
holds (Reloads tasks i j n) = eqb (reloaded tasks i j) n
holds (PairwiseTime p q reload part i time) = same_list (time_numbers (pairwise_time p q reload part i)) (time_numbers time)
holds (Admission b reload vcpus tasks room r) =
    same_list (admission_numbers (admission_reply b reload vcpus tasks room)) (admission_numbers r)

unfoldable pub all_hold : List Example → Bool
all_hold [] = true
all_hold (e ∷ es) = holds e && all_hold es
