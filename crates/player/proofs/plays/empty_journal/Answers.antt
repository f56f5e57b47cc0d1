-- The array is `zeros`, as long as the definition says.
-- Assumes nothing.
use mathlib.Core.Path.{refl}
use Rattle.player.specs.Plays.{zeros}
use Rattle.player.proofs.plays.empty_journal.Goals as goal

pub returns : goal.returns
unfolding zeros
returns c = refl
