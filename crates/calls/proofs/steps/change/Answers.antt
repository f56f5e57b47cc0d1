-- A change of registers is an effect without writes.
-- Assumes nothing.
use Rattle.calls.specs.Steps.{finished}
use Rattle.calls.proofs.steps.change.Goals as goal

pub returns : goal.returns
unfolding finished
returns c = rw (c.accept.ensures, c.advance.ensures)
