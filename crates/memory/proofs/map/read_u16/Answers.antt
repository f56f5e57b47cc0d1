-- `read_u16` meets its contract.
-- Assumes nothing.
use Rattle.std.proofs.Common.{arith}
use Rattle.memory.specs.Map.{word_at}
use Rattle.memory.proofs.map.read_u16.Goals as goal

pub returns : goal.returns
unfolding word_at
returns c = rw (← c.read_u8.ensures, ← c.read_u8-2.ensures) (omega (arith, c.from_be_bytes.ensures))
