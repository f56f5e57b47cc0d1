-- `CCBits::is_set` meets its contract: an `&` with the flag's mask is not 0 exactly where the flag is set.
-- Assumes nothing.
use Rattle.registers.proofs.Masks.{test-mask}
use Rattle.registers.proofs.CCBits.is_set.Goals as goal

pub returns : goal.returns
returns c = rw c.mask.ensures (test-mask _ _)
