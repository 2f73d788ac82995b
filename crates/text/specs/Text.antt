-- The lines that `admit` prints, in ASCII: `vcpu ROW TIME` and `task ROW TIME` for each row and then `admitted`, or `refused NUMBER ROW` alone.
use Rattle.std.specs.Prelude.{ℕ, zero, suc, ◌+◌, ◌/◌, ◌%◌, min, List, [], ◌∷◌, ◌++◌, ltb, length, take, drop, if◌then◌else◌}

-- the digits of n, with room for so many
unfoldable pub digits : ℕ → ℕ → List ℕ
digits zero n = []
digits (suc room) n = let front = digits room (n / 10) in if ltb n 10 then (48 + n) ∷ [] else front ++ ((48 + n % 10) ∷ [])

-- n in decimal without leading zeros: it has no more digits than n + 1
unfoldable pub decimal : ℕ → List ℕ
decimal n = digits (suc n) n

-- a word, two numbers and a newline; a space stands between the numbers, and at the end of the word
unfoldable pub line : List ℕ → ℕ → ℕ → List ℕ
line name a b = name ++ (decimal a ++ (32 ∷ (decimal b ++ (10 ∷ []))))

-- a line for each time, its row first, rows counted from the one given
unfoldable pub lines_from : List ℕ → ℕ → List ℕ → List ℕ
lines_from name row [] = []
lines_from name row (time ∷ times) = line name row time ++ lines_from name (row + 1) times

-- "vcpu "
abbrev pub vcpu_name : List ℕ
vcpu_name = 118 ∷ 99 ∷ 112 ∷ 117 ∷ 32 ∷ []

-- "task "
abbrev pub task_name : List ℕ
task_name = 116 ∷ 97 ∷ 115 ∷ 107 ∷ 32 ∷ []

-- "refused "
abbrev pub refused_name : List ℕ
refused_name = 114 ∷ 101 ∷ 102 ∷ 117 ∷ 115 ∷ 101 ∷ 100 ∷ 32 ∷ []

-- "admitted" and a newline
abbrev pub admitted_line : List ℕ
admitted_line = 97 ∷ 100 ∷ 109 ∷ 105 ∷ 116 ∷ 116 ∷ 101 ∷ 100 ∷ 10 ∷ []

-- all lines of a plan that is admitted, with the times of its VCPUs and of its tasks
unfoldable pub admitted_lines : List ℕ → List ℕ → List ℕ
admitted_lines vcpus tasks = lines_from vcpu_name 0 vcpus ++ (lines_from task_name 0 tasks ++ admitted_line)

-- the lent bytes with a text in front of them
abbrev pub over : List ℕ → List ℕ → List ℕ
over text lent = text ++ drop (length text) lent

-- the most VCPUs and tasks that a plan has, and of times in row order those of its VCPUs and of its tasks
abbrev pub most_vcpus : ℕ
most_vcpus = 16

abbrev pub most_tasks : ℕ
most_tasks = 32

abbrev pub vcpu_part : ℕ → List ℕ → List ℕ
vcpu_part vcpus times = take (min vcpus most_vcpus) times

abbrev pub task_part : ℕ → ℕ → List ℕ → List ℕ
task_part vcpus tasks times = take (min tasks most_tasks) (drop (min vcpus most_vcpus) times)
