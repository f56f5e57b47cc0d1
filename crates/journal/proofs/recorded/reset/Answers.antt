-- A call from outside.
-- Assumes nothing.

use Rattle.journal.proofs.recorded.reset.Goals as goal

pub returns : goal.returns
returns c = c.record_outside.ensures
