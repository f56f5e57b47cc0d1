-- A dollar sign and two digits.
-- Assumes nothing.
use Rattle.text.proofs.Texts.{grown-grown}
use Rattle.disassembly.proofs.figures.with_number.Goals as goal

pub returns : goal.returns
returns c = rw (c.with_hex.ensures, c.with_byte.ensures) (simp grown-grown)
