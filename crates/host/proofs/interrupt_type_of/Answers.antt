-- `interrupt_type_of` meets its contract.
-- Assumes nothing.
use Rattle.host.specs.Numbers.{interrupt_type_of}
use Rattle.host.proofs.Laws.{interrupt-rest}
use borrow.Author.Rules.{rules}
use Rattle.host.proofs.interrupt_type_of.Goals as goal

pub returns-in-0 : goal.returns-in-0
unfolding interrupt_type_of
returns-in-0 c = rw c.in-0.is

pub returns-in-1 : goal.returns-in-1
unfolding interrupt_type_of
returns-in-1 c = rw c.in-1.is

pub returns-in_default : goal.returns-in_default
returns-in_default c = interrupt-rest _ (search rules) (search rules)
