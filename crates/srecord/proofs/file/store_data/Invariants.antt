-- `store_data`: the first i data bytes are stored.
-- Assumes nothing.
use Rattle.std.proofs.Common.{◌≡◌, length, take, drop}
use Rattle.srecord.specs.Line.{line_bytes}
use lib.Seq.{sets}
use Rattle.srecord.proofs.file.store_data.Given as goal

abbrev pub invariant-loop-i : goal.invariant-loop-i
invariant-loop-i l = (length l.mem ≡ length l.initial.mem) × (l.mem ≡ sets l.initial.mem l.address (take l.i (take l.count (drop 3 (line_bytes l.text)))))
