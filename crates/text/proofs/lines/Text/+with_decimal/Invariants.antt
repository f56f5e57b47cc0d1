-- The digits before the last one are those of the tenth part. The measure is the number.
-- Assumes nothing.
use Rattle.text.proofs.lines.Text.+with_decimal.Given as goal

abbrev pub decreases-with_decimal : goal.decreases-with_decimal
decreases-with_decimal l = l.n
