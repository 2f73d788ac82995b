-- What the row of a refusal names: document 01, "The row is the lowest domain or row at fault for 5 to 7 and 17 to 22, else 0".
use Rattle.std.specs.Prelude.{ℕ, Bool, ◌&&◌, leb, if◌then◌else◌}
use Rattle.refusal.specs.declared.RowNames.{RowNames}
use Rattle.refusal.specs.declared.RowNames.TheVariants.{Domain, PlanRow, Nothing}

-- a, b and the numbers between them
abbrev pub within : ℕ → ℕ → ℕ → Bool
within a b n = leb a n && leb n b

-- 5 to 7 name a domain, 17 to 22 a row of the plan, and every other number nothing
unfoldable pub row_names : ℕ → RowNames
row_names n = if within 5 7 n then Domain else if within 17 22 n then PlanRow else Nothing
