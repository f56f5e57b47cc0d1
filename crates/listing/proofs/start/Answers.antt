-- The two branches.
-- Assumes nothing.

use Rattle.listing.proofs.start.Goals as goal

pub returns-then-given : goal.returns-then-given
returns-then-given c = rw c.if-given.true

pub returns-else-given : goal.returns-else-given
returns-else-given c = rw c.if-given.false
