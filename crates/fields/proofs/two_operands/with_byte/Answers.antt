-- An operation of the accumulator and a byte.
-- Assumes nothing.
use Rattle.fields.specs.TwoOperands.{with_byte}
use Rattle.fields.proofs.two_operands.with_byte.Goals as goal

pub returns : goal.returns
unfolding with_byte
returns c = rw (c.entry_at.ensures, c.mode_of.ensures, c.accumulator.ensures)
