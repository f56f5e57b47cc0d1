-- `size` is half of what follows the first two characters.
-- Assumes nothing.
use Rattle.std.proofs.Common.{arith}
use Rattle.srecord.proofs.Bytes.{line-bytes}
use Rattle.srecord.proofs.line.size.Goals as goal

pub returns : goal.returns
returns c = omega (arith, line-bytes c.args.text.now, c.saturating_sub.ensures)
