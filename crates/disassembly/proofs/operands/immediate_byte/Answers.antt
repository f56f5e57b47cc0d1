-- A number sign and the byte.
-- Assumes nothing.
use Rattle.text.proofs.Texts.{grown-grown, text-grows}
use Rattle.disassembly.proofs.operands.immediate_byte.Goals as goal

pub returns : goal.returns
returns c = rw (c.with_number.ensures, c.with_byte.ensures, c.empty.ensures) (simp (grown-grown, text-grows))
