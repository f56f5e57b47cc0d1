-- The byte is what the operation makes of the old one.
-- Assumes nothing.
use Rattle.std.proofs.Common.{◌≡◌, ◌%◌, arith}
use Rattle.memory.proofs.Folds.{one-write}
use Rattle.operations.specs.EightBit.{on_memory}
use Rattle.calls.proofs.decisions.on_memory.Goals as goal

pub returns : goal.returns
unfolding on_memory
returns c =
    let h = c.tell_byte.ensures.1 in
    let f : c.unary-out.result.value % 256 ≡ c.unary-out.result.value = omega arith in
    rw (c.tell_byte.ensures.0, f, c.with_codes.ensures, c.unary-out.ensures, c.read_u8.ensures, one-write)
