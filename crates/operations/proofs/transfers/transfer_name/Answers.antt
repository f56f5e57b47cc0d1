-- Nine codes name their register, every other code DP.
-- Assumes nothing.
use Rattle.std.proofs.Common.{rules, tests}
use Rattle.operations.specs.Transfers.{transfer_name}
use Rattle.operations.proofs.transfers.transfer_name.Goals as goal

pub returns-in-0 : goal.returns-in-0
unfolding transfer_name
returns-in-0 c = rw c.in-0.is

pub returns-in-1 : goal.returns-in-1
unfolding transfer_name
returns-in-1 c = rw c.in-1.is

pub returns-in-2 : goal.returns-in-2
unfolding transfer_name
returns-in-2 c = rw c.in-2.is

pub returns-in-3 : goal.returns-in-3
unfolding transfer_name
returns-in-3 c = rw c.in-3.is

pub returns-in-4 : goal.returns-in-4
unfolding transfer_name
returns-in-4 c = rw c.in-4.is

pub returns-in-5 : goal.returns-in-5
unfolding transfer_name
returns-in-5 c = rw c.in-5.is

pub returns-in-8 : goal.returns-in-8
unfolding transfer_name
returns-in-8 c = rw c.in-8.is

pub returns-in-9 : goal.returns-in-9
unfolding transfer_name
returns-in-9 c = rw c.in-9.is

pub returns-in-10 : goal.returns-in-10
unfolding transfer_name
returns-in-10 c = rw c.in-10.is

pub returns-in_default : goal.returns-in_default
unfolding transfer_name
returns-in_default c = search (tests, rules)
