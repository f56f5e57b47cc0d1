-- The host's own number.
-- Assumes nothing.
use Rattle.host.specs.Structs.{unnamed}
use Rattle.host_compare.proofs.unnamed_count.Goals as goal

pub returns : goal.returns
unfolding unnamed
returns c = rw c.unnamed.ensures
