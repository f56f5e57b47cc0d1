-- `none` meets its contract.
-- Assumes nothing.
use Rattle.std.proofs.Common.{refl}
use Rattle.memory.specs.Writes.{twelve}
use Rattle.memory.proofs.writes.Writes.none.Goals as goal

pub returns : goal.returns
unfolding twelve
returns c = refl
