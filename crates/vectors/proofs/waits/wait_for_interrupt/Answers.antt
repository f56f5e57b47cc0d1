-- `wait_for_interrupt`: the frame of the masked codes; a refusal leaves them as they came.
-- Assumes nothing.
use Rattle.vectors.specs.Waits.{waiting}
use Rattle.vectors.proofs.waits.wait_for_interrupt.Goals as goal

pub returns-in-Err : goal.returns-in-Err
unfolding waiting
returns-in-Err c = rw (c.refuses.ensures, ← c.and_codes.ensures, ← c.frame-frame.ensures, c.in-Err.is)

pub returns-in-Ok : goal.returns-in-Ok
unfolding waiting
returns-in-Ok c = rw (← c.and_codes.ensures, ← c.frame-frame.ensures, c.in-Ok.is)
