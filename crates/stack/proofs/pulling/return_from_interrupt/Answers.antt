-- `return_from_interrupt` reads E before the pull, at the place where CC is pulled from.
-- Assumes nothing.
use Rattle.stack.specs.Pulling.{returned_from_interrupt}
use Rattle.stack.proofs.pulling.return_from_interrupt.Goals as goal
use Rattle.stack.proofs.pulling.return_from_interrupt.Goals.{then-entire, else-entire}

pub returns : goal.returns
unfolding returned_from_interrupt
returns c =
    rw (c.pull.ensures, ← c.read_u8.ensures, ← c.bit-entire.ensures)
    (elim c.if-entire.branch [ then-entire w ↦ rw (w.mask-is, w.if-entire.true) | else-entire w ↦ rw (w.mask-is, w.if-entire.false) ])
