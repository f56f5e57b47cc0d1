-- Two prefixes; every other byte is an opcode of the plain page.
-- Assumes nothing.
use borrow.Author.Tests.{ne_eqb}
use borrow.Author.Rules.{rules}
use Rattle.decode.specs.Decode.{located, decoded_at}
use Rattle.training.proofs.decoding.decode.Goals as goal

pub returns-in-16 : goal.returns-in-16
unfolding located decoded_at
returns-in-16 c = rw (c.after_prefix.ensures, ← c.read_u8-code.ensures, c.in-16.is)

pub returns-in-17 : goal.returns-in-17
unfolding located decoded_at
returns-in-17 c = rw (c.after_prefix-in-17.ensures, ← c.read_u8-code.ensures, c.in-17.is)

pub returns-in_default : goal.returns-in_default
unfolding located decoded_at
returns-in_default c =
    let x = c.read_u8-code.result in
    rw (c.on_page.ensures, ← c.read_u8-code.ensures, ne_eqb x 0x10 (search rules), ne_eqb x 0x11 (search rules))
