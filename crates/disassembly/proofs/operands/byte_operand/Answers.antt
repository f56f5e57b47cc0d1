-- The two registers of TFR and EXG, a number, or by the operation on memory.
-- Assumes nothing.
use Rattle.text.proofs.Texts.{text-grows}
use Rattle.disassembly.proofs.operands.byte_operand.Goals as goal

pub returns-then-names_two : goal.returns-then-names_two
returns-then-names_two c = rw (c.with_transfer.ensures, c.empty.ensures, c.in-Registers.is, ← c.names_two.ensures, c.if-names_two.true) (simp text-grows)

pub returns-else-names_two : goal.returns-else-names_two
returns-else-names_two c = rw (c.immediate_byte.ensures, c.in-Registers.is, ← c.names_two.ensures, c.if-names_two.false)

pub returns-in-Memory : goal.returns-in-Memory
returns-in-Memory c = rw (c.memory_byte.ensures, c.in-Memory.is)
