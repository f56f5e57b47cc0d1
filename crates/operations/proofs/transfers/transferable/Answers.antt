-- The test of both codes is computed as it is defined.
-- Assumes nothing.
use Rattle.std.proofs.Common.{refl}
use Rattle.operations.specs.Transfers.{transferable}
use Rattle.operations.proofs.transfers.transferable.Goals as goal

pub returns : goal.returns
unfolding transferable
returns c = refl
