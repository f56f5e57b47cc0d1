-- By the operation.
-- Assumes nothing.
use Rattle.bus.proofs.Arms.{no-fetch}
use borrow.Author.Rules.{rules}
use Rattle.bus.proofs.memory_count.Goals as goal

pub returns-in-Rts : goal.returns-in-Rts
returns-in-Rts c = rw c.in-Rts.is

pub returns-in-Rti : goal.returns-in-Rti
returns-in-Rti c = rw c.in-Rti.is c.return_count.ensures

pub returns-in-Swi : goal.returns-in-Swi
returns-in-Swi c = rw c.in-Swi.is

pub returns-in-Pull : goal.returns-in-Pull
returns-in-Pull c = rw (c.in-Pull.is, c.bytes_of.ensures, c.read_u8.ensures)

pub returns-in_default : goal.returns-in_default
returns-in_default c = let x = c.args in no-fetch x.op x.mem.now x.regs x.ea (search rules)
