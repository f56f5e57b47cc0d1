-- By E of the CC on the stack.
-- Assumes nothing.
use mathlib.Core.Bool.{true, false}
use Rattle.bus.proofs.Arms.{chosen}
use Rattle.bus.proofs.return_count.Goals as goal

pub returns-then-is_set : goal.returns-then-is_set
returns-then-is_set c = chosen _ _ 12 3 (rw (c.set_from_byte-cc.ensures, c.read_u8.ensures) at c.is_set.ensures) true c.if-is_set.true

pub returns-else-is_set : goal.returns-else-is_set
returns-else-is_set c = chosen _ _ 12 3 (rw (c.set_from_byte-cc.ensures, c.read_u8.ensures) at c.is_set.ensures) false c.if-is_set.false
