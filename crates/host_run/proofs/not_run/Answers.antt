-- The twin as given, and every step left.
-- Assumes nothing.

use Rattle.host_run.proofs.not_run.Goals as goal

pub returns : goal.returns
returns c = rw c.unnamed.ensures
