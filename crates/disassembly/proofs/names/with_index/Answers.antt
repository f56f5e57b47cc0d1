-- A comma and the name.
-- Assumes nothing.
use Rattle.text.proofs.Texts.{grown-grown}
use Rattle.disassembly.proofs.names.with_index.Goals as goal

pub returns : goal.returns
returns c = rw (c.with_name.ensures, c.with_byte.ensures) (simp grown-grown)
