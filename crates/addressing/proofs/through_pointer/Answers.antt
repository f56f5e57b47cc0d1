-- The word that is read.
-- Assumes nothing.
use Rattle.addressing.specs.Address.{through_pointer}
use Rattle.addressing.proofs.through_pointer.Goals as goal

pub returns : goal.returns
unfolding through_pointer
returns c = rw (c.at_address.ensures, c.read_u16.ensures)
