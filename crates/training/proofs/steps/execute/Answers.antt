-- The address, then the operation.
-- Assumes nothing.

use Rattle.training.proofs.steps.execute.Goals as goal

pub operate-requires : goal.operate-requires
operate-requires c = c.requires

pub returns-in-Err : goal.returns-in-Err
returns-in-Err c = rw (c.refused.ensures, ← c.resolve.ensures, c.in-Err.is)

pub returns-in-Ok : goal.returns-in-Ok
returns-in-Ok c = rw (c.operate.ensures, ← c.resolve.ensures, c.in-Ok.is)
