-- The target and ,PCR.
-- Assumes nothing.
use Rattle.std.proofs.Common.{append_assoc}
use Rattle.text.proofs.Texts.{grown-grown}
use Rattle.disassembly.proofs.operands.with_program.Goals as goal

pub returns : goal.returns
returns c = rw (c.with_byte-3.ensures, c.with_byte-2.ensures, c.with_byte.ensures, c.with_byte-target.ensures, c.with_target.ensures) (simp (grown-grown, append_assoc))
