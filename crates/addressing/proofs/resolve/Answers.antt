-- The effective address first, the next address after it.
-- Assumes nothing.
use Rattle.addressing.specs.Address.{resolved_of}
use Rattle.addressing.proofs.resolve.Goals as goal

pub returns : goal.returns
unfolding resolved_of
returns c = rw (c.advance.ensures, c.effective.ensures)
