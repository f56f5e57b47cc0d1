-- The overflow is that of the definition, and the result is below the modulus.
-- Assumes nothing.
use native.Mathlib.Nat.{mod-lt}
use native.Mathlib.Omega.{arith}
use Rattle.u8oru16.specs.Signed.{sum_out}
use Rattle.whole.proofs.Signed.{back}
use Rattle.whole.proofs.numbers.sum.Goals as goal

pub returns : goal.returns
unfolding sum_out
returns c = record { value = rw (c.is_outside.ensures, back c.signed_sum.result c.signed_sum.ensures.result_bound, c.signed_sum.ensures.value); value_bound = mod-lt _ (omega (arith, c.requires.width.some)) }
