-- Two prefixes, and every other byte is an opcode of the plain page.
-- Assumes nothing.
use Rattle.std.proofs.Common.{rules, ne_eqb}
use Rattle.decode.specs.Decode.{located}
use Rattle.decode.proofs.instruction.locate.Goals as goal

pub returns-in-16 : goal.returns-in-16
unfolding located
returns-in-16 c = rw (c.second_byte.ensures, ← c.read_u8-code.ensures, c.in-16.is)

pub returns-in-17 : goal.returns-in-17
unfolding located
returns-in-17 c = rw (c.second_byte-in-17.ensures, ← c.read_u8-code.ensures, c.in-17.is)

pub returns-in_default : goal.returns-in_default
unfolding located
returns-in_default c = rw (← c.read_u8-code.ensures, ne_eqb c.read_u8-code.result 0x10 (search rules), ne_eqb c.read_u8-code.result 0x11 (search rules))
