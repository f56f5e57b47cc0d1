-- The eight bytes, high byte first.
-- Assumes nothing.
use Rattle.std.proofs.Common.{arith}
use Rattle.scenery.proofs.line.long_at.Goals as goal

pub returns : goal.returns
returns g c =
    rw (
      ← c.byte_at.ensures,
      ← c.byte_behind.ensures,
      ← c.byte_behind-2.ensures,
      ← c.byte_behind-3.ensures,
      ← c.byte_behind-4.ensures,
      ← c.byte_behind-5.ensures,
      ← c.byte_behind-6.ensures,
      ← c.byte_behind-7.ensures,
    )
    (omega (arith, c.from_be_bytes.ensures))
