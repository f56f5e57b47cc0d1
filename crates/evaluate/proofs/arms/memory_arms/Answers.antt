-- A pull by its stack and its post-byte.
-- Assumes nothing.
use Rattle.evaluate.proofs.arms.memory_arms.Goals as goal

pub returns-in-Pull : goal.returns-in-Pull
returns-in-Pull c = rw (c.pull_arms.ensures, c.read_u8.ensures, c.in-Pull.is)
