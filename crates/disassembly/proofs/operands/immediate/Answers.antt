-- A byte, a word, or no immediate operand.
-- Assumes nothing.
use Rattle.text.proofs.Texts.{grown-grown, text-grows}
use Rattle.disassembly.proofs.operands.immediate.Goals as goal

pub returns-in-Immediate8 : goal.returns-in-Immediate8
returns-in-Immediate8 c = rw (c.byte_operand.ensures, c.read_u8.ensures, c.in-Immediate8.is)

pub returns-in-Immediate16 : goal.returns-in-Immediate16
returns-in-Immediate16 c = rw (c.with_word.ensures, c.read_u16.ensures, c.with_byte.ensures, c.empty.ensures, c.in-Immediate16.is) (simp (grown-grown, text-grows))
