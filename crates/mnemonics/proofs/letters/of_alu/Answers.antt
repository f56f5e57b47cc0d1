-- An arm for each operation and accumulator.
-- Assumes nothing.

use Rattle.mnemonics.proofs.letters.of_alu.Goals as goal

pub returns-in-A : goal.returns-in-A
returns-in-A c = rw (c.in-Add.is, c.in-A.is)

pub returns-in-B : goal.returns-in-B
returns-in-B c = rw (c.in-Add.is, c.in-B.is)

pub returns-in-A-acc : goal.returns-in-A-acc
returns-in-A-acc c = rw (c.in-Adc.is, c.in-A-acc.is)

pub returns-in-B-acc : goal.returns-in-B-acc
returns-in-B-acc c = rw (c.in-Adc.is, c.in-B-acc.is)

pub returns-in-A-acc-2 : goal.returns-in-A-acc-2
returns-in-A-acc-2 c = rw (c.in-Sub.is, c.in-A-acc-2.is)

pub returns-in-B-acc-2 : goal.returns-in-B-acc-2
returns-in-B-acc-2 c = rw (c.in-Sub.is, c.in-B-acc-2.is)

pub returns-in-A-acc-3 : goal.returns-in-A-acc-3
returns-in-A-acc-3 c = rw (c.in-Sbc.is, c.in-A-acc-3.is)

pub returns-in-B-acc-3 : goal.returns-in-B-acc-3
returns-in-B-acc-3 c = rw (c.in-Sbc.is, c.in-B-acc-3.is)

pub returns-in-A-acc-4 : goal.returns-in-A-acc-4
returns-in-A-acc-4 c = rw (c.in-Cmp.is, c.in-A-acc-4.is)

pub returns-in-B-acc-4 : goal.returns-in-B-acc-4
returns-in-B-acc-4 c = rw (c.in-Cmp.is, c.in-B-acc-4.is)

pub returns-in-A-acc-5 : goal.returns-in-A-acc-5
returns-in-A-acc-5 c = rw (c.in-And.is, c.in-A-acc-5.is)

pub returns-in-B-acc-5 : goal.returns-in-B-acc-5
returns-in-B-acc-5 c = rw (c.in-And.is, c.in-B-acc-5.is)

pub returns-in-A-acc-6 : goal.returns-in-A-acc-6
returns-in-A-acc-6 c = rw (c.in-Bit.is, c.in-A-acc-6.is)

pub returns-in-B-acc-6 : goal.returns-in-B-acc-6
returns-in-B-acc-6 c = rw (c.in-Bit.is, c.in-B-acc-6.is)

pub returns-in-A-acc-7 : goal.returns-in-A-acc-7
returns-in-A-acc-7 c = rw (c.in-Or.is, c.in-A-acc-7.is)

pub returns-in-B-acc-7 : goal.returns-in-B-acc-7
returns-in-B-acc-7 c = rw (c.in-Or.is, c.in-B-acc-7.is)

pub returns-in-A-acc-8 : goal.returns-in-A-acc-8
returns-in-A-acc-8 c = rw (c.in-Eor.is, c.in-A-acc-8.is)

pub returns-in-B-acc-8 : goal.returns-in-B-acc-8
returns-in-B-acc-8 c = rw (c.in-Eor.is, c.in-B-acc-8.is)

pub returns-in-A-acc-9 : goal.returns-in-A-acc-9
returns-in-A-acc-9 c = rw (c.in-Ld.is, c.in-A-acc-9.is)

pub returns-in-B-acc-9 : goal.returns-in-B-acc-9
returns-in-B-acc-9 c = rw (c.in-Ld.is, c.in-B-acc-9.is)
