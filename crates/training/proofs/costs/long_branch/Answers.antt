-- By the mode, and of a long branch by its condition.
-- Assumes nothing.
use Rattle.cycles.proofs.Arms.{not-long, long}
use borrow.Author.Rules.{rules}
use Rattle.training.proofs.costs.long_branch.Goals as goal

pub returns-in-Ra : goal.returns-in-Ra
returns-in-Ra c = rw (c.in-Ra.is, c.in-Relative16.is)

pub returns-in_default-cond : goal.returns-in_default-cond
returns-in_default-cond c = let x = c.args in
    rw (c.condition.ensures, c.in-Relative16.is) (long x.cond x.cc (search rules))

pub returns-in_default : goal.returns-in_default
returns-in_default c = not-long c.args.mode c.args.cond c.args.cc (search rules)
