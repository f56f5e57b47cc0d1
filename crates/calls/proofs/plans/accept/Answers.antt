-- A change of the machine has no writes.
-- Assumes nothing.

use Rattle.calls.proofs.plans.accept.Goals as goal

pub returns : goal.returns
returns c = rw c.none.ensures
