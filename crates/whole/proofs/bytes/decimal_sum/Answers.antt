-- The byte and both corrections, which are at most 6 and 60; the high digit by the byte as a whole (`above-99`).
-- Assumes nothing.
use native.Mathlib.Omega.{arith}
use Rattle.registers.specs.ConditionCodes.{flag}
use Rattle.registers.specs.declared.CCBit.TheVariants.{C}
use Rattle.operations.specs.Inherent.{corrected}
use Rattle.whole.proofs.Decimal.{above-99}
use Rattle.whole.proofs.bytes.decimal_sum.Goals as goal

pub returns : goal.returns
unfolding corrected
returns c =
    let x = c.args in record { value = rw (c.correction-2.ensures.value, c.correction.ensures.value, c.is_set-2.ensures, c.is_set.ensures, above-99 (flag C x.cc) x.a); upper_bound = omega arith }
