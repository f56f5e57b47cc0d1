-- `read_u16_after` meets its contract.
-- Assumes nothing.
use Rattle.std.proofs.Common.{arith}
use Rattle.memory.specs.Map.{word_at}
use Rattle.memory.proofs.writes.read_u16_after.Goals as goal

pub returns : goal.returns
unfolding word_at
returns c = rw (← c.read_u8_after-high.ensures, ← c.read_u8_after-low.ensures) (omega (arith, c.from_be_bytes.ensures))
