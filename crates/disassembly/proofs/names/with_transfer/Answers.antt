-- Both names, a comma between.
-- Assumes nothing.
use Rattle.std.proofs.Common.{append_assoc}
use Rattle.text.proofs.Texts.{grown-grown}
use Rattle.disassembly.proofs.names.with_transfer.Goals as goal

pub returns : goal.returns
returns c = rw (c.with_index.ensures, c.transfer_name-2.ensures, c.with_name-source.ensures, c.transfer_name.ensures) (simp (grown-grown, append_assoc))
