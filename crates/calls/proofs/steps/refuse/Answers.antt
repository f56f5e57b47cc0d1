-- Nothing is reported.
-- Assumes nothing.
use Rattle.memory.specs.Writes.{reported}
use Rattle.calls.proofs.steps.refuse.Goals as goal

pub returns : goal.returns
unfolding reported
returns c = λ s. rw c.none.ensures
