-- `unnamed` meets its contract.
-- Assumes nothing.
use Rattle.host.specs.Structs.{unnamed}
use Rattle.host.proofs.unnamed.Goals as goal

pub returns : goal.returns
unfolding unnamed
returns c = rw c.no_writes.ensures
