-- The byte is that of the accumulator.
-- Assumes nothing.
use Rattle.std.proofs.Common.{◌≡◌, ◌%◌, arith}
use Rattle.memory.proofs.Folds.{one-write}
use Rattle.calls.proofs.decisions.store8.Goals as goal

pub returns : goal.returns
returns c =
    let h = c.tell_byte.ensures.1 in
    let f : c.accumulator-value.result % 256 ≡ c.accumulator-value.result = omega arith in
    rw (c.tell_byte.ensures.0, f, c.test.ensures, c.accumulator-value.ensures, one-write)
