-- `read_u8u16` meets its contract.
-- Assumes nothing.
use Rattle.memory.specs.Map.{value_at}
use Rattle.memory.proofs.map.read_u8u16.Goals as goal

pub returns-then-wide : goal.returns-then-wide
unfolding value_at
returns-then-wide c = rw (c.if-wide.true, c.read_u16.ensures)

pub returns-else-wide : goal.returns-else-wide
unfolding value_at
returns-else-wide c = rw (c.if-wide.false, c.read_u8.ensures)
