-- The digit of the flag's weight, as `bit_at` has it.
-- Assumes nothing.
use lib.Pow.{pow_pos}
use Rattle.registers.specs.ConditionCodes.{place, bit_at}
use Rattle.whole.proofs.flags.is_set.Goals as goal

pub nonzero_div-result : goal.nonzero_div-result
unfolding bit_at
nonzero_div-result c = rw c.weight.ensures (pow_pos (place c.args.bit))

pub returns : goal.returns
unfolding bit_at
returns c = rw c.weight.ensures
