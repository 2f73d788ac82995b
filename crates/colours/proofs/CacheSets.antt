-- A cache set, by 64 lines, is a colour: where the colour bits of an address stand.
use Prim.Native.Nat.{ℕ, ◌/◌, ◌%◌, ◌<◌}
use native.Mathlib.Nat.{mul_comm, mod-lt, div-div-eq-div-mul}
use native.Mathlib.Omega.{arith}
use mathlib.Core.Path.{◌≡◌, ◌∙◌}
use lib.Arith.{mod-mul, digits_div}
use Rattle.colours.specs.Cache.{colour_of, page_of, cache_set}

pub set_colour : (n a : ℕ) → 0 < n → cache_set n a / 64 ≡ colour_of n (page_of a)
set_colour n a h =
    let lines : 0 < 64 = omega arith in
    rw (mul_comm 64 n, mod-mul (a / 64) h lines)
    (digits_div (a / 64 / 64 % n) (mod-lt (a / 64) lines) ∙ rw (div-div-eq-div-mul a 64 64))
