-- By the class of the operation.
-- Assumes nothing.

use Rattle.training.proofs.steps.arms.Goals as goal

pub returns-in-Registers : goal.returns-in-Registers
returns-in-Registers c = rw (c.registers_arm.ensures, c.in-Registers.is)

pub returns-in-Memory : goal.returns-in-Memory
returns-in-Memory c = rw (c.memory_arms.ensures, c.in-Memory.is)
