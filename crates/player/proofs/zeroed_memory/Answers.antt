-- The array is `zeros`, which is opened here and nowhere else.
-- Assumes nothing.
use mathlib.Core.Path.{refl}
use Rattle.player.specs.Plays.{zeros}
use Rattle.player.proofs.zeroed_memory.Goals as goal

pub returns : goal.returns
unfolding zeros
returns c = refl
