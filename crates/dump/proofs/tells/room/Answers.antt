-- The array is too long to be counted.
-- Assumes nothing.
use Rattle.dump.proofs.Bounds.{counted}
use Rattle.dump.proofs.tells.room.Goals as goal

pub returns : goal.returns
returns c = counted 557277
