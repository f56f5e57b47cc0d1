-- 80 names PC alone.
-- Assumes nothing.
use Rattle.registers.specs.ConditionCodes.{bit_at}
use Rattle.memory.specs.Map.{value_at}
use Rattle.stack.specs.Pushing.{chosen}
use Rattle.stack.specs.Pulling.{pulls, pulled}
use Rattle.stack.proofs.pulling.return_from_subroutine.Goals as goal

pub returns : goal.returns
unfolding pulled pulls chosen bit_at value_at
returns c = rw (c.with_pc.ensures, c.with_word.ensures, c.read_u16-pc.ensures)
