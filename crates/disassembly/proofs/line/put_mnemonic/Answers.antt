-- The letters of the mnemonic.
-- Assumes nothing.
use Rattle.disassembly.specs.Line.{mnemonic_text}
use Rattle.disassembly.proofs.line.put_mnemonic.Goals as goal

pub returns : goal.returns
unfolding mnemonic_text
returns c = rw (← c.mnemonic-name.ensures, ← c.as_bytes.ensures.value) c.put.ensures
