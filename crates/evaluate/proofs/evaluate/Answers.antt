-- An operation on registers is an effect without writes, or its refusal.
-- Assumes nothing.

use Rattle.evaluate.proofs.evaluate.Goals as goal

pub returns-in-Ok : goal.returns-in-Ok
returns-in-Ok c = rw (c.changes.ensures, c.in-Registers.is, ← c.change.ensures, c.in-Ok.is)

pub returns-in-Err : goal.returns-in-Err
returns-in-Err c = rw (c.refuses.ensures, c.in-Registers.is, ← c.change.ensures, c.in-Err.is)

pub returns-in-Memory : goal.returns-in-Memory
returns-in-Memory c = rw (c.evaluate_memory.ensures, c.in-Memory.is)
