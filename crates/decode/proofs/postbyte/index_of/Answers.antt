-- The mask 60, shifted down, is the register field.
-- Assumes nothing.
use Rattle.std.proofs.Common.{◌/◌, rules, ne_eqb}
use lib.Bits.{bit_and}
use Rattle.decode.specs.PostByte.{index_of}
use Rattle.decode.proofs.PostBytes.{field}
use Rattle.decode.proofs.postbyte.index_of.Goals as goal

pub returns-in-0 : goal.returns-in-0
unfolding index_of
returns-in-0 c = rw (← (field c.args.post (search rules)), c.in-0.is)

pub returns-in-1 : goal.returns-in-1
unfolding index_of
returns-in-1 c = rw (← (field c.args.post (search rules)), c.in-1.is)

pub returns-in-2 : goal.returns-in-2
unfolding index_of
returns-in-2 c = rw (← (field c.args.post (search rules)), c.in-2.is)

pub returns-in_default : goal.returns-in_default
unfolding index_of
returns-in_default c = let f = bit_and c.args.post 0x60 / 32 in rw (← (field c.args.post (search rules)), ne_eqb f 0 (search rules), ne_eqb f 1 (search rules), ne_eqb f 2 (search rules))
