-- `add` meets its contract.
-- Assumes nothing.
use Rattle.std.proofs.Common.{le-ltb, lt-ltb}
use Rattle.memory.specs.Writes.{added}
use Rattle.memory.proofs.writes.Writes.add.Goals as goal

pub returns-then-n-lt12 : goal.returns-then-n-lt12
unfolding added
returns-then-n-lt12 c = simp (lt-ltb _ _ c.if-n-lt12.true)

pub returns-else-n-lt12 : goal.returns-else-n-lt12
unfolding added
returns-else-n-lt12 c = simp (le-ltb _ _ c.if-n-lt12.false)
