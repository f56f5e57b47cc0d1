-- A fresh twin, told.
-- Assumes nothing.

use Rattle.host_calls.proofs.doorhawser_start.Goals as goal

pub returns : goal.returns
returns c = rw (c.from.ensures, c.fresh.ensures)
