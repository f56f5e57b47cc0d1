-- The shift takes the bit that `bit_at` takes by division.
-- Assumes nothing.
use Rattle.registers.specs.ConditionCodes.{bit_at}
use Rattle.evaluate.proofs.arms.pull_arms.Goals as goal

pub returns-in-U : goal.returns-in-U
unfolding bit_at
returns-in-U c = rw c.in-U.is

pub returns-in-S : goal.returns-in-S
returns-in-S c = rw c.in-S.is
