-- A store of the accumulator, unless its mode would be immediate.
-- Assumes nothing.
use Rattle.fields.specs.TwoOperands.{store_byte}
use Rattle.fields.proofs.two_operands.store_byte.Goals as goal

pub returns : goal.returns
unfolding store_byte
returns c = rw (c.unless_immediate.ensures, c.entry_at.ensures, c.mode_of-mode.ensures, c.accumulator.ensures)
