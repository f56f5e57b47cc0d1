-- The digits of the bytes so far are written.
-- Assumes nothing.
use lib.ListN.{take}
use Rattle.dump.specs.Told.{Wrote, hex_bytes}
use Rattle.dump.proofs.lines.put_hex.Given as goal

abbrev pub invariant-loop-b : goal.invariant-loop-b
invariant-loop-b l = Wrote l.initial.out l.at (hex_bytes (take l.b-index l.bytes)) l.end l.out
