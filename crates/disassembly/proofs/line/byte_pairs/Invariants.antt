-- The invariant: the first k bytes are written.
-- Assumes nothing.
use Rattle.std.proofs.Common.{◌≡◌}
use Rattle.text.specs.Lines.{text_of}
use Rattle.disassembly.specs.Line.{byte_pairs}
use Rattle.disassembly.proofs.line.byte_pairs.Given as goal

abbrev pub invariant-loop-k : goal.invariant-loop-k
invariant-loop-k l = l.pairs ≡ text_of (byte_pairs l.k l.mem l.at)
