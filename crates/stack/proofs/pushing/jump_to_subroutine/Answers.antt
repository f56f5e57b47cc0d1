-- PC is pushed, then written.
-- Assumes nothing.
use Rattle.stack.specs.Pushing.{jumped_to_subroutine}
use Rattle.stack.proofs.pushing.jump_to_subroutine.Goals as goal

pub returns-in-Err : goal.returns-in-Err
unfolding jumped_to_subroutine
returns-in-Err c = rw (c.refuses.ensures, ← c.push-pushed.ensures, c.in-Err.is)

pub returns-in-Ok : goal.returns-in-Ok
unfolding jumped_to_subroutine
returns-in-Ok c = rw (c.stores.ensures, c.jump.ensures, ← c.push-pushed.ensures, c.in-Ok.is)
