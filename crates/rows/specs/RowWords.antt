-- The rows of a plan: document 01, "Plans". VCPU rows are four words: core, domain, period and budget. Task rows are twenty: the number
-- of a VCPU row, period, deadline, colour set, and the costs for 1 to 16 colours.
use Rattle.std.specs.Prelude.{ℕ, ◌+◌, ◌*◌, ◌/◌, List, length, get_or}
use Rattle.std.specs.Int.Count.{ones}

abbrev pub vcpu_word : List ℕ → ℕ → ℕ → ℕ
vcpu_word vcpus i k = get_or vcpus (4 * i + k) 0

abbrev pub core : List ℕ → ℕ → ℕ
core vcpus i = vcpu_word vcpus i 0

abbrev pub domain : List ℕ → ℕ → ℕ
domain vcpus i = vcpu_word vcpus i 1

abbrev pub vcpu_period : List ℕ → ℕ → ℕ
vcpu_period vcpus i = vcpu_word vcpus i 2

abbrev pub budget : List ℕ → ℕ → ℕ
budget vcpus i = vcpu_word vcpus i 3

abbrev pub task_word : List ℕ → ℕ → ℕ → ℕ
task_word tasks j k = get_or tasks (20 * j + k) 0

abbrev pub vcpu_of : List ℕ → ℕ → ℕ
vcpu_of tasks j = task_word tasks j 0

abbrev pub task_period : List ℕ → ℕ → ℕ
task_period tasks j = task_word tasks j 1

abbrev pub deadline : List ℕ → ℕ → ℕ
deadline tasks j = task_word tasks j 2

abbrev pub colour_set : List ℕ → ℕ → ℕ
colour_set tasks j = task_word tasks j 3

-- the cost with k colours, k from 1 to 16; k of 0 reads the colour set, and k above 16 the words of the next row
abbrev pub cost_with : List ℕ → ℕ → ℕ → ℕ
cost_with tasks j k = task_word tasks j (3 + k)

-- a task's k is the number of ones in its colour set; its cost is the k-th cost
unfoldable pub cost : List ℕ → ℕ → ℕ
cost tasks j = cost_with tasks j (ones (colour_set tasks j))

-- whole rows
abbrev pub vcpu_rows : List ℕ → ℕ
vcpu_rows vcpus = length vcpus / 4

abbrev pub task_rows : List ℕ → ℕ
task_rows tasks = length tasks / 20
