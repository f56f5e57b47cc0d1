-- An arm for each kind of operand.
-- Assumes nothing.
use Rattle.text.proofs.Texts.{grown-grown, text-grows}
use Rattle.disassembly.specs.Operands.{operand_text}
use Rattle.disassembly.proofs.operands.operand_text.Goals as goal

pub returns-in-Inherent : goal.returns-in-Inherent
unfolding operand_text
returns-in-Inherent c = rw (c.empty.ensures, c.in-Inherent.is)

pub returns-in-Immediate : goal.returns-in-Immediate
unfolding operand_text
returns-in-Immediate c = rw (c.immediate.ensures, c.in-Immediate.is)

pub returns-in-Direct : goal.returns-in-Direct
unfolding operand_text
returns-in-Direct c = rw (c.with_number.ensures, c.with_byte.ensures, c.empty-in-Direct.ensures, c.in-Direct.is) (simp (grown-grown, text-grows))

pub returns-in-Indexed : goal.returns-in-Indexed
unfolding operand_text
returns-in-Indexed c = rw (c.indexed.ensures, c.in-Indexed.is)

pub returns-in-Extended : goal.returns-in-Extended
unfolding operand_text
returns-in-Extended c = rw (c.with_word.ensures, c.empty-in-Extended.ensures, c.in-Extended.is) (simp text-grows)

pub returns-in-Relative : goal.returns-in-Relative
unfolding operand_text
returns-in-Relative c = rw (c.with_target.ensures, c.empty-in-Relative.ensures, c.in-Relative.is) (simp text-grows)
