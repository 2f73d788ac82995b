-- The input of `admit`: document 01, "Examples from the recorder". Little-endian 32-bit words: N, F, domain count, as many grants (also
-- active), L, VCPU count, VCPU rows, task count, task rows. Bytes beyond the input read as 0, so that every number here is defined for every input.
use Rattle.std.specs.Prelude.{ℕ, ◌+◌, ◌-◌, ◌*◌, Bool, ◌||◌, List, ◌++◌, map, ltb, get_or, replicate}
use Rattle.lists.specs.Range.{from}
use Rattle.board.specs.declared.Board.{Board}
use Rattle.board.specs.Tests.{first_quotas}

-- word k of the input, its lowest byte first
unfoldable pub word_in : List ℕ → ℕ → ℕ
word_in input k =
    get_or input (4 * k) 0 + 256 * get_or input (4 * k + 1) 0 + 65536 * get_or input (4 * k + 2) 0 + 16777216 * get_or input (4 * k + 3) 0

-- n words from word k on
unfoldable pub words_in : List ℕ → ℕ → ℕ → List ℕ
words_in input k n = map (word_in input) (from k n)

unfoldable pub domain_count : List ℕ → ℕ
domain_count input = word_in input 2

unfoldable pub vcpu_count : List ℕ → ℕ
vcpu_count input = word_in input (4 + domain_count input)

unfoldable pub task_count : List ℕ → ℕ
task_count input = word_in input (5 + domain_count input + 4 * vcpu_count input)

-- how many words the counts say that the plan has
unfoldable pub plan_words : List ℕ → ℕ
plan_words input = 6 + domain_count input + 4 * vcpu_count input + 20 * task_count input

-- a count exceeds 8 domains, 16 VCPUs or 32 tasks
unfoldable pub over_limit : List ℕ → Bool
over_limit input = ltb 8 (domain_count input) || ltb 16 (vcpu_count input) || ltb 32 (task_count input)

-- the grants are also active; fields beyond the count are 0, and no test reads them
unfoldable pub grants : List ℕ → List ℕ
grants input = words_in input 3 (domain_count input) ++ replicate (8 - domain_count input) 0

unfoldable pub board_in : List ℕ → Board
board_in input =
    record {
      colours = word_in input 0;
      frames = word_in input 1;
      domains = domain_count input;
      grants = grants input;
      active = grants input;
      quotas = first_quotas;
    }

unfoldable pub reload_in : List ℕ → ℕ
reload_in input = word_in input (3 + domain_count input)

unfoldable pub vcpus_in : List ℕ → List ℕ
vcpus_in input = words_in input (5 + domain_count input) (4 * vcpu_count input)

unfoldable pub tasks_in : List ℕ → List ℕ
tasks_in input = words_in input (6 + domain_count input + 4 * vcpu_count input) (20 * task_count input)
