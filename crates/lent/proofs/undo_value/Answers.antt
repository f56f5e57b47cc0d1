-- `lent::undo_value` meets its contract: what `journal::undo` returned, put together anew.
-- Assumes nothing.
use Rattle.lent.proofs.Parts.{parted}
use Rattle.lent.proofs.undo_value.Goals as goal

pub returns : goal.returns
returns c = rw c.from.ensures (parted _ _ _ _ c.undo.ensures.leaves, c.undo.ensures.typed)
