-- 1, and every other byte.
-- Assumes nothing.
use mathlib.Core.Path.{refl}
use Rattle.machine.specs.Record.{mark_of}
use Rattle.machine.proofs.record.mark_of.Goals as goal

pub returns : goal.returns
unfolding mark_of
returns c = refl
