-- 0, 1, and every other byte.
-- Assumes nothing.
use native.Mathlib.Omega.{arith}
use Rattle.machine.specs.Record.{wait_of}
use Rattle.machine.proofs.Header.{wait-rest}
use Rattle.machine.proofs.record.wait_of.Goals as goal

pub returns-in-0 : goal.returns-in-0
unfolding wait_of
returns-in-0 c = rw c.in-0.is

pub returns-in-1 : goal.returns-in-1
unfolding wait_of
returns-in-1 c = rw c.in-1.is

pub returns-in_default : goal.returns-in_default
returns-in_default c = wait-rest _ (omega arith) (omega arith)
