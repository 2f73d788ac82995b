-- The words of the table as the code has them, in 16 bits: how far one lies above another, which tells whose it is.
use Rattle.std.specs.Prelude.{ℕ, ◌+◌, ◌-◌, ◌%◌, Bool, ◌&&◌, nat_lt}

-- how far word x lies above a first one, counted round after 65,535
abbrev pub above : ℕ → ℕ → ℕ
above first x = (x + 65536 - first) % 65536

-- x is a word, and one of so many from a first one on
unfoldable pub among : ℕ → ℕ → ℕ → Bool
among first count x = nat_lt x 65536 && nat_lt (above first x) count
