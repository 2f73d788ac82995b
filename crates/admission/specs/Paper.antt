-- The answer of a search in document 01's words: a time, or late.
use Rattle.std.specs.Prelude.{ℕ, Option, Some, None}
use Rattle.times.specs.FirstTime.{Time, At, Late}

abbrev pub paper_found : Option ℕ → Time
paper_found (Some t) = At t
paper_found None = Late
