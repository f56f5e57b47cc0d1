-- The place follows from what the column stands for.
-- Assumes nothing.
use Rattle.fields.specs.TwoOperands.{two_operand_place}
use Rattle.fields.proofs.two_operands.place.Goals as goal

pub returns-in-Byte : goal.returns-in-Byte
unfolding two_operand_place
returns-in-Byte c = rw (c.with_byte.ensures, ← c.operation.ensures, c.in-Byte.is)

pub returns-in-Store : goal.returns-in-Store
unfolding two_operand_place
returns-in-Store c = rw (c.store_byte.ensures, ← c.operation.ensures, c.in-Store.is)

pub returns-in-Word : goal.returns-in-Word
unfolding two_operand_place
returns-in-Word c = rw (c.place.ensures, ← c.operation.ensures, c.in-Word.is)
