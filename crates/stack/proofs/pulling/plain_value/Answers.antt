-- The low byte is at the next address.
-- Assumes nothing.
use Rattle.std.proofs.Common.{◌≡◌, ◌+◌, ◌%◌, arith}
use Rattle.memory.specs.Map.{word_at, value_at}
use Rattle.stack.proofs.pulling.plain_value.Goals as goal

pub returns-then-wide : goal.returns-then-wide
unfolding value_at word_at
returns-then-wide c =
    let a = c.args in
    let e : (a.at + 1) % 65536 ≡ a.at + 1 = omega arith in
    rw (c.if-wide.true, c.new.ensures, c.plain_byte.ensures, c.plain_byte-first.ensures, e)

pub returns-else-wide : goal.returns-else-wide
unfolding value_at
returns-else-wide c = rw (c.if-wide.false, c.plain_byte-first.ensures)
