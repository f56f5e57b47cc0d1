-- The next address first, then the code.
-- Assumes nothing.
use Rattle.std.proofs.Common.{le-leb}
use borrow.Author.Tests.{lt-leb}
use Rattle.disassembly.specs.Disassembly.{taken_as_step}
use Rattle.disassembly.proofs.judge.Goals as goal

pub returns-then-i-gt65535 : goal.returns-then-i-gt65535
unfolding taken_as_step
returns-then-i-gt65535 c = rw (lt-leb c.args.i.next 0xFFFF c.if-i-gt65535.true)

pub returns-then-code_refused : goal.returns-then-code_refused
unfolding taken_as_step
returns-then-code_refused c = rw (le-leb c.args.i.next 0xFFFF c.if-i-gt65535.false, ← c.immediate_at.ensures, ← c.code_refused.ensures, c.if-code_refused.true)

pub returns : goal.returns
unfolding taken_as_step
returns c = rw (le-leb c.args.i.next 0xFFFF c.if-i-gt65535.false, ← c.immediate_at.ensures, ← c.code_refused.ensures, c.if-code_refused.false)
