-- `refused` meets its contract.
-- Assumes nothing.

use Rattle.journal.proofs.recorded.refused.Goals as goal

pub returns : goal.returns
returns c = rw c.none.ensures
