-- What `admit` answers to an input: document 01, refusal 1 before all others, then admission, the grants as active sets; and what it prints.
use Rattle.std.specs.Prelude.{ℕ, ◌*◌, Bool, not, ◌||◌, List, [], ◌∷◌, ltb, eqb, length, if◌then◌else◌}
use Rattle.refusal.specs.Reply.{Reply, Answers, Refuses, test, unless}
use Rattle.admission.specs.Admission.{admission_reply, vcpu_times, task_times}
use Rattle.report.specs.Input.{plan_words, over_limit, board_in, reload_in, vcpus_in, tasks_in}
use Rattle.text.specs.Text.{line, refused_name, admitted_lines}

-- the plan in front of an input, which may go on after it: how many words it takes, or 1
unfoldable pub extent_reply : List ℕ → Reply ℕ
extent_reply input = unless (test 1 (over_limit input || ltb (length input) (4 * plan_words input)) ∷ []) (plan_words input)

-- 1: a count exceeds its limit, or the input is not as long as its counts say
unfoldable pub not_a_plan : List ℕ → Bool
not_a_plan input = over_limit input || not (eqb (length input) (4 * plan_words input))

-- the verdict; 48 words are room for the times of all rows
unfoldable pub verdict : List ℕ → Reply (Unit {0})
verdict input =
    if not_a_plan input then Refuses 1 0 else admission_reply (board_in input) (reload_in input) (vcpus_in input) (tasks_in input) 48

-- the words that the plan took
unfoldable pub words_taken : List ℕ → ℕ
words_taken input = if not_a_plan input then 0 else plan_words input

-- the lines of a verdict, with the times of VCPUs and of tasks
abbrev pub lines_of : Reply (Unit {0}) → List ℕ → List ℕ → List ℕ
lines_of (Answers a) vcpus tasks = admitted_lines vcpus tasks
lines_of (Refuses number row) vcpus tasks = line refused_name number row

-- what is printed
unfoldable pub text_of : List ℕ → List ℕ
text_of input = lines_of (verdict input) (vcpu_times (vcpus_in input)) (task_times (reload_in input) (vcpus_in input) (tasks_in input))
