-- `mul` meets its contract.
-- Assumes nothing.
use Rattle.std.proofs.Common.{◌*◌, rules}
use Rattle.registers.proofs.Bits.{product}
use Rattle.registers.proofs.Masks.{test-mask}
use Rattle.registers.proofs.CCBits.mul.Goals as goal

pub overflow_mul-d : goal.overflow_mul-d
overflow_mul-d c = record { fits = product c.args.a c.args.b (search rules) (search rules) }

pub returns : goal.returns
returns c = rw (c.set-2.ensures, c.set.ensures, test-mask 7 (c.args.a * c.args.b))
