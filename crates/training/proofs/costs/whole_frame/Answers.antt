-- By E.
-- Assumes nothing.

use Rattle.training.proofs.costs.whole_frame.Goals as goal

pub returns-then-is_whole_frame : goal.returns-then-is_whole_frame
returns-then-is_whole_frame c = rw (← c.is_whole_frame.ensures, c.if-is_whole_frame.true)

pub returns-else-is_whole_frame : goal.returns-else-is_whole_frame
returns-else-is_whole_frame c = rw (← c.is_whole_frame.ensures, c.if-is_whole_frame.false)
