-- An arm for each form with an offset, and one for the eight that have none.
-- Assumes nothing.
use borrow.Author.Rules.{rules}
use Rattle.decode.specs.Operand.{with_form}
use Rattle.decode.specs.declared.postbyte.Form.TheVariants.{Offset8, Offset16, Program8, Program16, Address}
use Rattle.decode.proofs.Forms.{one_byte, two_bytes, no_byte}
use Rattle.decode.proofs.operand.with_form.Goals as goal

pub returns-in-Offset5 : goal.returns-in-Offset5
unfolding with_form
returns-in-Offset5 c = rw (c.indexed_by.ensures, c.five_bits.ensures, c.in-Offset5.is)

pub returns-in-Offset8 : goal.returns-in-Offset8
unfolding with_form
returns-in-Offset8 c =
    let x = c.args in
    rw (c.reaching.ensures, c.indexed_by-in-Offset8.ensures, c.signed_byte.ensures, c.byte_at.ensures, c.in-Offset8.is)
    (one_byte x.mem.now x.post x.at Offset8)

pub returns-in-Program8 : goal.returns-in-Program8
unfolding with_form
returns-in-Program8 c =
    let x = c.args in
    rw (c.reaching-in-Program8.ensures, c.indexed_by-in-Program8.ensures, c.signed_byte-in-Program8.ensures, c.byte_at-in-Program8.ensures, c.in-Program8.is)
    (one_byte x.mem.now x.post x.at Program8)

pub returns-in-Offset16 : goal.returns-in-Offset16
unfolding with_form
returns-in-Offset16 c =
    let x = c.args in
    rw (c.reaching-in-Offset16.ensures, c.indexed_by-in-Offset16.ensures, c.word_at.ensures, c.in-Offset16.is)
    (two_bytes x.mem.now x.post x.at Offset16)

pub returns-in-Program16 : goal.returns-in-Program16
unfolding with_form
returns-in-Program16 c =
    let x = c.args in
    rw (c.reaching-in-Program16.ensures, c.indexed_by-in-Program16.ensures, c.word_at-in-Program16.ensures, c.in-Program16.is)
    (two_bytes x.mem.now x.post x.at Program16)

pub returns-in-Address : goal.returns-in-Address
unfolding with_form
returns-in-Address c =
    let x = c.args in
    rw (c.reaching-in-Address.ensures, c.indexed_by-in-Address.ensures, c.word_at-in-Address.ensures, c.in-Address.is)
    (two_bytes x.mem.now x.post x.at Address)

pub returns-in-Increment1 : goal.returns-in-Increment1
unfolding with_form
returns-in-Increment1 c =
    let x = c.args in
    rw c.indexed_by-in-Increment1.ensures (no_byte x.mem.now x.post x.at x.form (search rules))
