-- The length of an array that is too long to be counted.
-- Assumes nothing.
use Rattle.player.proofs.Bounds.{counted}
use Rattle.batch.proofs.boot.Goals as goal

pub slice_bounds-boot-end : goal.slice_bounds-boot-end
slice_bounds-boot-end c = counted 0x88000
