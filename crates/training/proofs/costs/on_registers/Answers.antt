-- A branch, or no extra.
-- Assumes nothing.
use Rattle.cycles.proofs.Arms.{no-branch}
use borrow.Author.Rules.{rules}
use Rattle.training.proofs.costs.on_registers.Goals as goal

pub returns-in-Branch : goal.returns-in-Branch
returns-in-Branch c = rw (c.long_branch.ensures, c.in-Branch.is)

pub returns-in_default : goal.returns-in_default
returns-in_default c = no-branch c.args.op c.args.mode c.args.cc (search rules)
