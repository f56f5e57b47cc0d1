-- By the answer: a memory of another length, an output too short, and four parts.
-- Assumes nothing.
use Rattle.dump.proofs.Writing.{dump-parts, write-length, write-short, write_done}
use Rattle.dump.proofs.write.Goals as goal

pub returns-then-mem-ne-MEMORY : goal.returns-then-mem-ne-MEMORY
returns-then-mem-ne-MEMORY c = write-length c.args.machine c.args.mem.now c.args.out.now c.if-mem-ne-MEMORY.true

pub returns-then-out-lt-DUMP : goal.returns-then-out-lt-DUMP
returns-then-out-lt-DUMP c = write-short c.args.machine c.args.mem.now c.args.out.now c.if-mem-ne-MEMORY.false c.if-out-lt-DUMP.true

pub returns : goal.returns
returns c =
    let a = c.args in
    write_done a.machine a.mem.now a.out.now c.if-mem-ne-MEMORY.false c.if-out-lt-DUMP.false _
    (dump-parts a.machine a.mem.now a.out.now _ _ _ _ (rw c.front_of.ensures at c.put.ensures) (rw c.counter_of.ensures at c.put-2.ensures) (rw c.counter_of-2.ensures at c.put-3.ensures) c.put-4.ensures)
