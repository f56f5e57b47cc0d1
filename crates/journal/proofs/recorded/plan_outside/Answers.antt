-- Each has its own plan.
-- Assumes nothing.

use Rattle.journal.proofs.recorded.plan_outside.Goals as goal

pub returns-in-Interrupt : goal.returns-in-Interrupt
returns-in-Interrupt c = rw c.in-Interrupt.is c.plan_interrupt.ensures

pub returns-in-Reset : goal.returns-in-Reset
returns-in-Reset c = rw c.in-Reset.is c.plan_reset.ensures
