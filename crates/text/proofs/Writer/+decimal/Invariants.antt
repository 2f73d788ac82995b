-- The measure of `text::Writer::decimal`: a call of itself is at a tenth, so that the number falls.
use Rattle.text.proofs.Writer.+decimal.Given as goal

abbrev pub decreases-decimal : goal.decreases-decimal
decreases-decimal l = l.n
