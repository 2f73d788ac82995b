-- `text::Writer::decimal` meets its contract: the digits of a tenth, if there are any, and then the last digit.
use Prim.Native.Nat.{ℕ, ◌%◌}
use native.Mathlib.Omega.{arith}
use mathlib.Core.Path.{◌≡◌}
use Rattle.text.proofs.Decimal.{decimal_small, decimal_more, decimal_length_small, decimal_length_more}
use Rattle.text.proofs.Writing.{wrote_length, wrote_append}
use Rattle.text.proofs.Writer.+decimal.Goals as goal
use Rattle.text.proofs.Writer.+decimal.Goals.{then-n-ge10, else-n-ge10}

pub decimal-requires : goal.decimal-requires
decimal-requires t c = (omega arith, omega (arith, c.requires, decimal_length_more c.args.n c.if-n-ge10.true))

pub bytes-requires : goal.bytes-requires
bytes-requires t c =
    let n : ℕ = c.args.n in
    elim c.if-n-ge10.branch [
      | then-n-ge10 w ↦ rw w.self-is (omega (arith, c.requires, decimal_length_more n w.if-n-ge10.true, w.decimal.ensures.end_after, wrote_length w.decimal.ensures))
      | else-n-ge10 w ↦ rw w.self-is (omega (arith, c.requires, decimal_length_small n w.if-n-ge10.false))
    ]

pub returns : goal.returns
returns t c =
    let n : ℕ = c.args.n in
    elim c.if-n-ge10.branch [
      | then-n-ge10 w ↦ rw (decimal_more n w.if-n-ge10.true) (wrote_append w.decimal.ensures (rw w.self-is at c.bytes.ensures))
      | else-n-ge10 w ↦
          let last : n % 10 ≡ n = omega (arith, w.if-n-ge10.false) in
          rw (decimal_small n w.if-n-ge10.false) (rw (w.self-is, last) at c.bytes.ensures)
    ]
