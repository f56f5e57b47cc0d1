-- A machine is made of a host's twin.
-- Assumes nothing.
use Rattle.machine.specs.Record.{mark_of}
use Rattle.host.specs.Structs.{machine_from}
use Rattle.host.proofs.MachineFromHostTwin.from.Goals as goal

pub returns : goal.returns
unfolding machine_from mark_of
returns c = rw c.wait_of.ensures
