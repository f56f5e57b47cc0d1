-- Each field is the number at its place.
-- Assumes nothing.
use Rattle.machine.specs.Record.{machine_of}
use Rattle.machine.proofs.Header.{single}
use Rattle.machine.proofs.record.machine_of.Goals as goal

pub returns : goal.returns
unfolding machine_of
returns c =
    rw (
      c.number_at.ensures,
      c.number_at-2.ensures,
      c.registers_of.ensures,
      c.wait_of.ensures,
      c.byte_at.ensures,
      c.mark_of.ensures,
      c.byte_at-2.ensures,
    )
    (simp single)
