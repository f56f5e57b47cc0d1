-- Brackets around an indirect form.
-- Assumes nothing.
use Rattle.std.proofs.Common.{append_assoc}
use Rattle.text.proofs.Texts.{grown-grown, text-grows}
use Rattle.disassembly.proofs.operands.indexed.Goals as goal

pub returns-then-is_indirect : goal.returns-then-is_indirect
returns-then-is_indirect c = rw (c.with_byte.ensures, c.with_form.ensures, c.with_byte-open.ensures, c.empty.ensures, ← c.is_indirect.ensures, c.if-is_indirect.true, c.name-index.ensures, c.word.ensures, c.index_of.ensures) (simp (grown-grown, text-grows, append_assoc))

pub returns-else-is_indirect : goal.returns-else-is_indirect
returns-else-is_indirect c = rw (c.with_form-else-is_indirect.ensures, c.empty-else-is_indirect.ensures, ← c.is_indirect.ensures, c.if-is_indirect.false, c.name-index.ensures, c.word.ensures, c.index_of.ensures) (simp text-grows)
