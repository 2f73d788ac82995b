-- A task's time by the pairwise rule, which document 02, No. 3 replaced: an arrival made a task reload the colours that the two both hold,
-- and those of a task between them were forgotten. Nothing is admitted by it; claims and examples compare with it.
use Rattle.std.specs.Prelude.{ℕ, ◌+◌, ◌*◌, List, leb}
use Rattle.std.specs.Int.Bits.{bit_and}
use Rattle.std.specs.Int.Count.{ones}
use Rattle.supply.specs.Supply.{supply}
use Rattle.rows.specs.RowWords.{task_period, deadline, colour_set, cost}
use Rattle.times.specs.FirstTime.{Time, first_time}
use Rattle.times.specs.Times.{need}

-- the count of colours that two tasks both hold
unfoldable pub colours_shared : List ℕ → ℕ → ℕ → ℕ
colours_shared tasks i j = ones (bit_and (colour_set tasks j) (colour_set tasks i))

unfoldable pub pairwise_need : ℕ → List ℕ → ℕ → ℕ → ℕ
pairwise_need reload part i t = need (cost part i) (task_period part) (λ (j : ℕ). cost part j + reload * colours_shared part i j) i t

unfoldable pub pairwise_time : ℕ → ℕ → ℕ → List ℕ → ℕ → Time
pairwise_time p q reload part i = first_time (λ (t : ℕ). leb (pairwise_need reload part i t) (supply p q t)) (deadline part i)
