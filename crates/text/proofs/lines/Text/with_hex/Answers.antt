-- The two digits of `hex2`, one after the other.
-- Assumes nothing.
use Rattle.text.proofs.Texts.{grown-grown}
use Rattle.text.proofs.lines.Text.with_hex.Goals as goal

pub returns : goal.returns
returns c = rw (c.with_byte-2.ensures, c.with_byte.ensures, c.hex2.ensures) (simp grown-grown)
