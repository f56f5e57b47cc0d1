-- By the operation.
-- Assumes nothing.
use Rattle.std.proofs.Common.{inl, inr}
use Rattle.calls.proofs.decisions.decide_memory.Goals as goal

pub returns-in-Store8 : goal.returns-in-Store8
returns-in-Store8 c = rw c.in-Store8.is c.store8.ensures

pub returns-in-Store16 : goal.returns-in-Store16
returns-in-Store16 c = rw c.in-Store16.is c.store16.ensures

pub returns-in-OnMemory : goal.returns-in-OnMemory
returns-in-OnMemory c = rw c.in-OnMemory.is c.on_memory.ensures

pub returns-in-Bsr : goal.returns-in-Bsr
returns-in-Bsr c = elim c.in-Bsr.is [ inl e ↦ rw e c.call.ensures | inr e ↦ rw e c.call.ensures ]

pub returns-in-Rts : goal.returns-in-Rts
returns-in-Rts c = rw c.in-Rts.is (rw (c.tell_change.ensures, c.return_from_subroutine.ensures))

pub returns-in-Push : goal.returns-in-Push
returns-in-Push c = rw (c.in-Push.is, c.tell_push.ensures, c.read_u8.ensures)

pub returns-in-Pull : goal.returns-in-Pull
returns-in-Pull c = rw c.in-Pull.is (rw (c.tell_change-in-Pull.ensures, c.pull_registers.ensures, c.read_u8-mask.ensures))

pub returns-in_default : goal.returns-in_default
returns-in_default c = rw c.leave.ensures
