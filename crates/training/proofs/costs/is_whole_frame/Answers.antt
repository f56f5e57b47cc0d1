-- E of the byte that S points at.
-- Assumes nothing.

use Rattle.training.proofs.costs.is_whole_frame.Goals as goal

pub returns : goal.returns
returns c = rw (c.is_set.ensures, c.read_u8.ensures)
