-- Sums over lanes as the code takes them: on a side of a set, and over as many lanes as a number of colours says.
use Rattle.std.specs.Prelude.{ℕ, ◌-◌, ◌%◌, Bool, true, false, not, bit_and}

-- a test, or its contrary
abbrev pub side_of : Bool → Bool → Bool
side_of true o = o
side_of false o = not o

-- the lanes that are summed up: sixteen of a board's colours
unfoldable pub lanes_of : ℕ → ℕ
lanes_of n = bit_and ((18446744073709551616 - n) % 18446744073709551616) 16
