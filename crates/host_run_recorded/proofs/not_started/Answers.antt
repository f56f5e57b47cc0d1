-- The twin as given, and no reason.
-- Assumes nothing.

use Rattle.host_run_recorded.proofs.not_started.Goals as goal

pub returns : goal.returns
returns c = rw c.unnamed.ensures
