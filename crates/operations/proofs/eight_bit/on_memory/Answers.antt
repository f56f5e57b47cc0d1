-- The byte at the address is changed and written back.
-- Assumes nothing.
use Rattle.operations.specs.EightBit.{on_memory}
use Rattle.operations.proofs.eight_bit.on_memory.Goals as goal

pub returns : goal.returns
unfolding on_memory
returns c = rw (c.stores.ensures, c.one_write.ensures, c.with_codes.ensures, c.unary-out.ensures, c.read_u8.ensures)
