-- `write` by the answer: memory of another length, an output too short, and the text stored.
-- Assumes nothing.
use Rattle.std.proofs.Common.{arith}
use Rattle.srecord.proofs.Calls.{rows_bound, write-length, write-short, write_done}
use Rattle.srecord.proofs.written.write.Goals as goal

pub returns-then-mem-ne65536 : goal.returns-then-mem-ne65536
returns-then-mem-ne65536 c = write-length c.args.mem.now c.args.start c.args.out.now c.if-mem-ne65536.true

pub overflow_add-count : goal.overflow_add-count
overflow_add-count c = omega (arith, rows_bound c.args.mem.now 2048)

pub returns-then-out-count : goal.returns-then-out-count
returns-then-out-count c = write-short c.args.mem.now c.args.start c.args.out.now c.if-mem-ne65536.false (omega arith)

pub returns : goal.returns
returns c = write_done c.args.mem.now c.args.start c.args.out.now c.if-mem-ne65536.false _ _ _ _ (omega arith) (omega arith) c.put_rows-at.ensures.0 c.put_rows-at.ensures.1 c.put_end.ensures
