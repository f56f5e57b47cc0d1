-- `lent::step_value` meets its contract: what `journal::step` returned, put together anew.
-- Assumes nothing.
use Rattle.lent.proofs.Parts.{parted}
use Rattle.lent.proofs.step_value.Goals as goal

pub returns : goal.returns
returns c = rw c.from.ensures (parted _ _ _ _ c.step.ensures.leaves, c.step.ensures.typed)
