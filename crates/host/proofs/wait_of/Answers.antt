-- `wait_of` meets its contract.
-- Assumes nothing.
use Rattle.machine.specs.Record.{wait_of}
use Rattle.machine.proofs.Header.{wait-rest}
use borrow.Author.Rules.{rules}
use Rattle.host.proofs.wait_of.Goals as goal

pub returns-in-0 : goal.returns-in-0
unfolding wait_of
returns-in-0 c = rw c.in-0.is

pub returns-in-1 : goal.returns-in-1
unfolding wait_of
returns-in-1 c = rw c.in-1.is

pub returns-in_default : goal.returns-in_default
returns-in_default c = wait-rest _ (search rules) (search rules)
