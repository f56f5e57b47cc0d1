-- The digit of 128 is bit 7.
-- Assumes nothing.
use Rattle.registers.specs.ConditionCodes.{bit_at}
use Rattle.registers.proofs.Bits.{product}
use borrow.Author.Rules.{rules}
use Rattle.whole.proofs.words.multiply.Goals as goal

pub overflow_mul-product : goal.overflow_mul-product
unfolding bit_at
overflow_mul-product c = record { fits = product c.args.a c.args.b (search rules) (search rules) }

pub returns : goal.returns
unfolding bit_at
returns c = rw (c.put.ensures, c.put-rounded.ensures)
