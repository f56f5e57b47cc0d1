-- The machine of a fresh twin is fresh.
-- Assumes nothing.

use Rattle.journal.proofs.Twin.fresh.Goals as goal

pub returns : goal.returns
returns c = rw c.fresh.ensures
