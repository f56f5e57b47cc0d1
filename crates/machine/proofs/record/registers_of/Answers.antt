-- Each register is the number at its place.
-- Assumes nothing.
use Rattle.machine.proofs.Header.{single}
use Rattle.machine.proofs.record.registers_of.Goals as goal

pub returns : goal.returns
returns c = simp single cc
