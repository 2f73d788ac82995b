-- What an arrival of an earlier task charges a task: its cost and the reload of colours. Document 02, No. 3, which is equation (3) of document
-- 000: of the colours that the arriving task holds, those that the task in question or a task ranked between the two holds, each once.
use Rattle.std.specs.Prelude.{ℕ, zero, suc, ◌+◌, ◌-◌, ◌*◌, List, map, ltb, if◌then◌else◌}
use Rattle.std.specs.Int.Bits.{bit_and, bit_or}
use Rattle.std.specs.Int.Count.{ones}
use Rattle.lists.specs.Range.{upto}
use Rattle.rows.specs.RowWords.{colour_set, cost}

-- the union of the colour sets of n rows from row k on
unfoldable pub held_from : List ℕ → ℕ → ℕ → ℕ
held_from tasks k zero = 0
held_from tasks k (suc n) = bit_or (colour_set tasks k) (held_from tasks (suc k) n)

-- the colours of row j that lie in the union of the sets of rows j + 1 to i
unfoldable pub reloaded_set : List ℕ → ℕ → ℕ → ℕ
reloaded_set tasks i j = bit_and (colour_set tasks j) (held_from tasks (suc j) (i - j))

-- how many colours an arrival of row j makes the rows after it, up to row i, reload
unfoldable pub reloaded : List ℕ → ℕ → ℕ → ℕ
reloaded tasks i j = ones (reloaded_set tasks i j)

-- an arrival of task j charges task i its cost and the reload of these colours
unfoldable pub arrival_charge : ℕ → List ℕ → ℕ → ℕ → ℕ
arrival_charge reload tasks i j = cost tasks j + reload * reloaded tasks i j

-- a row that a plan may have, or row 0, which no row comes before
unfoldable pub planned_row : ℕ → ℕ
planned_row i = if ltb i 32 then i else 0

-- the charges of the rows before row i, in 32 numbers, 0 past them; a row past the 32nd, of which a plan has none, has no charges
unfoldable pub charges : ℕ → List ℕ → ℕ → List ℕ
charges reload tasks i =
    let row = planned_row i in
    map (λ (j : ℕ). if ltb j row then arrival_charge reload tasks row j else 0) (upto 32)
