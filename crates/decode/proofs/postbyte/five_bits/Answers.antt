-- The mask 1F and the sign bit 10 give the five bits as a signed word.
-- Assumes nothing.
use Rattle.std.proofs.Common.{arith, rules, eq-eqb, ne_eqb}
use lib.Bits.{bit_and, and_le_r}
use Rattle.decode.proofs.PostBytes.{five}
use Rattle.decode.proofs.postbyte.five_bits.Goals as goal

pub overflow_cast-five : goal.overflow_cast-five
overflow_cast-five c = omega (arith, and_le_r c.args.post 31)

pub returns-then-post-ne0 : goal.returns-then-post-ne0
returns-then-post-ne0 c = rw (← (five c.args.post (search rules)), ne_eqb (bit_and c.args.post 16) 0 c.if-post-ne0.true)

pub returns-else-post-ne0 : goal.returns-else-post-ne0
returns-else-post-ne0 c = rw (← (five c.args.post (search rules)), eq-eqb (bit_and c.args.post 16) 0 c.if-post-ne0.false)
