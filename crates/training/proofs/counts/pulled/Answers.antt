-- RTI, or as the first engine counts.
-- Assumes nothing.

use Rattle.training.proofs.counts.pulled.Goals as goal

pub returns-then-is_whole_frame : goal.returns-then-is_whole_frame
returns-then-is_whole_frame c = rw (c.in-Rti.is, ← c.is_whole_frame.ensures, c.if-is_whole_frame.true)

pub returns-else-is_whole_frame : goal.returns-else-is_whole_frame
returns-else-is_whole_frame c = rw (c.in-Rti.is, ← c.is_whole_frame.ensures, c.if-is_whole_frame.false)

pub returns-in_default : goal.returns-in_default
returns-in_default c = c.memory_count.ensures
