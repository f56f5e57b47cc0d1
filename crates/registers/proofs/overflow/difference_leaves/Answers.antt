-- `difference_leaves`: the library's overflow is the signed rule.
-- Assumes nothing.
use Rattle.std.proofs.Common.{rules}
use Rattle.registers.proofs.Leaving.{byte-difference}
use Rattle.registers.proofs.overflow.difference_leaves.Goals as goal

pub returns : goal.returns
returns c =
    let x = c.args in
    byte-difference x.a x.b _ _ _ (search rules) (search rules) c.cast_signed.ensures c.cast_signed-2.ensures c.overflowing_sub.ensures.overflow
