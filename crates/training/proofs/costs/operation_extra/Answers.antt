-- By the class of the operation.
-- Assumes nothing.

use Rattle.training.proofs.costs.operation_extra.Goals as goal

pub returns-in-Registers : goal.returns-in-Registers
returns-in-Registers c = rw (c.on_registers.ensures, c.in-Registers.is)

pub returns-in-Memory : goal.returns-in-Memory
returns-in-Memory c = rw (c.on_memory.ensures, c.in-Memory.is)
