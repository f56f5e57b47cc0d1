-- The width of a register says whether a word or a byte is read, as `value_at` reads it.
-- Assumes nothing.
use Rattle.std.proofs.Common.{ne_eqb}
use Rattle.memory.specs.Map.{value_at}
use Rattle.stack.proofs.pulling.pull_into.Goals as goal
use Rattle.stack.proofs.pulling.pull_into.Goals.{then-size-eq2, else-size-eq2}

pub returns : goal.returns
unfolding value_at
returns c =
    elim c.if-size-eq2.branch [
      | then-size-eq2 w ↦ rw (c.set_register.ensures, w.value-is, w.read_u16.ensures, ← c.reg_size-size.ensures, w.if-size-eq2.true)
      | else-size-eq2 w ↦ rw (c.set_register.ensures, w.value-is, w.read_u8.ensures, ← c.reg_size-size.ensures, ne_eqb _ _ w.if-size-eq2.false)
    ]
