-- `is_second` shifts and takes the lowest digit, as `bit_at` divides and takes it.
-- Assumes nothing.
use mathlib.Core.Path.{refl}
use Rattle.registers.specs.ConditionCodes.{bit_at}
use Rattle.fields.proofs.bits.is_second.Goals as goal

pub returns : goal.returns
unfolding bit_at
returns c = refl
