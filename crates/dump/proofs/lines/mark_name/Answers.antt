-- By the number.
-- Assumes nothing.
use native.Mathlib.Omega.{arith}
use Rattle.dump.specs.Told.{mark_text}
use Rattle.dump.proofs.Parts.{armed-is}
use Rattle.dump.proofs.lines.mark_name.Goals as goal

pub returns-in-0 : goal.returns-in-0
unfolding mark_text
returns-in-0 c = rw c.in-0.is

pub returns-in_default : goal.returns-in_default
returns-in_default c = armed-is c.args.n (λ e. omega arith)
