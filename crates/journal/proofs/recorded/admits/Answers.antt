-- Test by test.
-- Assumes nothing.
use native.Mathlib.Omega.{arith}
use Rattle.journal.proofs.Answers.{short-memory, short-journal, most-counted, admits-all}
use Rattle.journal.proofs.recorded.admits.Goals as goal

pub returns-then-memory-ne65536 : goal.returns-then-memory-ne65536
returns-then-memory-ne65536 c = short-memory _ _ _ _ c.if-memory-ne65536.true

pub returns-then-bytes-journal : goal.returns-then-bytes-journal
returns-then-bytes-journal c = short-journal _ _ _ _ c.if-memory-ne65536.false c.if-bytes-journal.true

pub returns-then-records-eq18446744073709551615 : goal.returns-then-records-eq18446744073709551615
returns-then-records-eq18446744073709551615 c = most-counted _ _ _ _ c.if-memory-ne65536.false c.if-bytes-journal.false (omega arith)

pub returns : goal.returns
returns c = admits-all _ _ _ _ c.if-memory-ne65536.false c.if-bytes-journal.false (omega arith)
