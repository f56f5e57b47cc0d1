-- By the number.
-- Assumes nothing.
use native.Mathlib.Omega.{arith}
use Rattle.dump.specs.Told.{wait_text}
use Rattle.dump.proofs.Parts.{sync-is}
use Rattle.dump.proofs.lines.wait_name.Goals as goal

pub returns-in-0 : goal.returns-in-0
unfolding wait_text
returns-in-0 c = rw c.in-0.is

pub returns-in-1 : goal.returns-in-1
unfolding wait_text
returns-in-1 c = rw c.in-1.is

pub returns-in_default : goal.returns-in_default
returns-in_default c = sync-is c.args.n (λ e. omega arith) (λ e. omega arith)
