-- `sum_leaves`: the library's overflow is the signed rule.
-- Assumes nothing.
use Rattle.std.proofs.Common.{rules}
use Rattle.registers.proofs.Leaving.{byte-sum}
use Rattle.registers.proofs.overflow.sum_leaves.Goals as goal

pub returns : goal.returns
returns c =
    let x = c.args in
    byte-sum x.a x.b _ _ _ (search rules) (search rules) c.cast_signed.ensures c.cast_signed-2.ensures c.overflowing_add.ensures.overflow
