-- Refusals 15 to 20 as a list of tests in document 01's order: one number over all rows before the next, the lowest row at fault first.
use Rattle.std.specs.Prelude.{ℕ, ◌+◌, ◌-◌, ◌/◌, ◌%◌, Bool, not, ◌&&◌, ◌||◌, List, ◌∷◌, ◌++◌, eqb, ltb, length}
use Rattle.lists.specs.Range.{from, upto, any_of}
use Rattle.refusal.specs.Reply.{Reply, Test, test, each, unless}
use Rattle.board.specs.declared.Board.{Board}
use Rattle.board.specs.Tests.{grant, shares, empty_or_outside}
use Rattle.rows.specs.RowWords.{core, domain, vcpu_period, budget, vcpu_of, task_period, deadline, colour_set, cost_with, vcpu_rows, task_rows}

-- a number is 0 or above a limit
abbrev pub zero_or_above : ℕ → ℕ → Bool
zero_or_above limit x = eqb x 0 || ltb limit x

-- 15: L exceeds 10,000, or the VCPU words are none, over 64 or no multiple of 4
abbrev pub bad_vcpu_words : ℕ → ℕ → Bool
bad_vcpu_words reload words = ltb 10000 reload || (zero_or_above 64 words || not (eqb (words % 4) 0))

-- 16: the task words are none, over 640 or no multiple of 20, or the shorter of the lists of times and rounds, of so many words, is shorter than
-- the rows of both kinds
abbrev pub bad_task_words : ℕ → ℕ → ℕ → Bool
bad_task_words rows words room = zero_or_above 640 words || (not (eqb (words % 20) 0) || ltb room (rows + words / 20))

-- a period outside 1 to 1,000,000, or a time outside 1 to the period
abbrev pub bad_times : ℕ → ℕ → Bool
bad_times period time = zero_or_above 1000000 period || zero_or_above period time

-- 17: core 0 to 3, domain below the count, period 1 to 1,000,000, budget 1 to the period
abbrev pub bad_vcpu : Board → List ℕ → ℕ → Bool
bad_vcpu b vcpus i = (ltb 3 (core vcpus i) || not (ltb (domain vcpus i) b.domains)) || bad_times (vcpu_period vcpus i) (budget vcpus i)

-- a cost outside 1 to 1,000,000, or above the one before
abbrev pub bad_cost : List ℕ → ℕ → ℕ → Bool
bad_cost tasks j k = zero_or_above 1000000 (cost_with tasks j k) || (ltb 1 k && ltb (cost_with tasks j (k - 1)) (cost_with tasks j k))

-- 18: a given VCPU row, period 1 to 1,000,000, deadline 1 to the period, a set that is not empty inside its domain's grant; sixteen costs
abbrev pub bad_fields : Board → List ℕ → List ℕ → ℕ → Bool
bad_fields b vcpus tasks j =
    not (ltb (vcpu_of tasks j) (vcpu_rows vcpus))
    || (bad_times (task_period tasks j) (deadline tasks j) || empty_or_outside (grant b (domain vcpus (vcpu_of tasks j))) (colour_set tasks j))

abbrev pub bad_task : Board → List ℕ → List ℕ → ℕ → Bool
bad_task b vcpus tasks j = bad_fields b vcpus tasks j || any_of (bad_cost tasks j) (from 1 16)

-- 19: it names a lower VCPU than the row before
abbrev pub bad_order : List ℕ → ℕ → Bool
bad_order tasks j = ltb 0 j && ltb (vcpu_of tasks j) (vcpu_of tasks (j - 1))

-- 20: it shares a colour with a row of another VCPU
abbrev pub shares_colour : List ℕ → ℕ → Bool
shares_colour tasks j =
    any_of (λ (k : ℕ). not (eqb (vcpu_of tasks k) (vcpu_of tasks j)) && shares (colour_set tasks j) (colour_set tasks k)) (upto (task_rows tasks))

-- it shares one with such a row after it; the lowest row that does is the lowest that 20 refuses
abbrev pub shares_with_later : List ℕ → ℕ → Bool
shares_with_later tasks j =
    any_of (λ (k : ℕ). not (eqb (vcpu_of tasks k) (vcpu_of tasks j)) && shares (colour_set tasks j) (colour_set tasks k)) (from (j + 1) (task_rows tasks - (j + 1)))

-- 17 to 20, each over all rows before the next
unfoldable pub row_tests : Board → List ℕ → List ℕ → List Test
row_tests b vcpus tasks =
    each (vcpu_rows vcpus) 17 (bad_vcpu b vcpus)
    ++ (each (task_rows tasks) 18 (bad_task b vcpus tasks)
    ++ (each (task_rows tasks) 19 (bad_order tasks) ++ each (task_rows tasks) 20 (shares_colour tasks)))

unfoldable pub plan_tests : Board → ℕ → List ℕ → List ℕ → ℕ → List Test
plan_tests b reload vcpus tasks room =
    test 15 (bad_vcpu_words reload (length vcpus))
    ∷ test 16 (bad_task_words (vcpu_rows vcpus) (length tasks) room)
    ∷ row_tests b vcpus tasks

unfoldable pub plan_reply : Board → ℕ → List ℕ → List ℕ → ℕ → Reply (Unit {0})
plan_reply b reload vcpus tasks room = unless (plan_tests b reload vcpus tasks room) tt
