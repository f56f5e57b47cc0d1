-- The bytes before the index are put.
-- Assumes nothing.
use Rattle.std.proofs.Common.{◌≡◌}
use Rattle.scenery.specs.Line.{filled}
use Rattle.scenery.proofs.start.fill.Given as goal

abbrev pub invariant-loop-i : goal.invariant-loop-i
invariant-loop-i g l = l.mem ≡ filled l.initial.mem l.at l.line l.from l.i
