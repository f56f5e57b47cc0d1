-- The place, or one past the end where the sum lies past it.
-- Assumes nothing.
use Rattle.std.proofs.Common.{◌∙◌, arith}
use Rattle.scenery.proofs.Saturating.{byte}
use Rattle.scenery.proofs.line.byte_behind.Goals as goal

pub returns : goal.returns
returns g c = c.byte_at.ensures ∙ rw c.saturating_add.ensures (byte c.args.line.now c.args.at c.args.n (omega arith))
