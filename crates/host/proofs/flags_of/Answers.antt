-- `flags_of` meets its contract.
-- Assumes nothing.
use Rattle.host.specs.Numbers.{flags_of}
use Rattle.host.proofs.Laws.{flags-rest}
use borrow.Author.Rules.{rules}
use Rattle.host.proofs.flags_of.Goals as goal

pub returns-in-0 : goal.returns-in-0
unfolding flags_of
returns-in-0 c = rw c.in-0.is

pub returns-in_default : goal.returns-in_default
returns-in_default c = flags-rest _ (search rules)
