-- The length of an array that is too long to be counted.
-- Assumes nothing.
use Rattle.player.proofs.Bounds.{counted}
use Rattle.batch.proofs.play.Goals as goal

pub slice_bounds-play-end : goal.slice_bounds-play-end
slice_bounds-play-end c = counted 0x88000
