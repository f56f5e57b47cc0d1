-- The invariant: the letters before the index are written.
-- Assumes nothing.
use Rattle.std.proofs.Common.{◌≡◌, take}
use Rattle.text.specs.Lines.{grown}
use Rattle.registers.specs.Names.{register_text}
use Rattle.disassembly.proofs.names.with_name.Given as goal

abbrev pub invariant-loop-letter : goal.invariant-loop-letter
invariant-loop-letter l = l.text ≡ grown l.fn.text (take l.letter-index (register_text l.fn.name))
