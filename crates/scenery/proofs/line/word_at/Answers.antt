-- The high byte, and the low one.
-- Assumes nothing.
use Rattle.std.proofs.Common.{arith}
use Rattle.scenery.proofs.line.word_at.Goals as goal

pub returns : goal.returns
returns g c = rw (← c.byte_at.ensures, ← c.byte_behind.ensures) (omega (arith, c.from_be_bytes.ensures))
