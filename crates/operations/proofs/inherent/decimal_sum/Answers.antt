-- The sum of the byte and both corrections, which is at most FF + 6 + 60.
-- Assumes nothing.
use Rattle.operations.specs.Inherent.{corrected}
use Rattle.operations.proofs.inherent.decimal_sum.Goals as goal

pub returns-clause-value : goal.returns-clause-value
unfolding corrected
returns-clause-value c = rw (c.correction-2.ensures.value, c.correction.ensures.value, c.is_set-2.ensures, c.is_set.ensures)
