-- RTI, a push or a pull, or no extra.
-- Assumes nothing.
use Rattle.cycles.proofs.Arms.{stacks, no-pull}
use borrow.Author.Rules.{rules}
use Rattle.training.proofs.costs.on_memory.Goals as goal

pub returns-in-Rti : goal.returns-in-Rti
returns-in-Rti c = rw (c.whole_frame.ensures, c.in-Rti.is)

pub returns-in-Push : goal.returns-in-Push
returns-in-Push c = let x = c.args in
    rw (c.bytes_of.ensures, c.read_u8.ensures) (stacks x.op x.mem.now x.regs x.ea (search rules))

pub returns-in_default : goal.returns-in_default
returns-in_default c = let x = c.args in no-pull x.op x.mem.now x.regs x.ea (search rules)
