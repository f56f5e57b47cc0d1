-- `sum_bytes` adds byte i in turn i.
-- Assumes nothing.
use Rattle.std.proofs.Common.{◌≡◌, ◌%◌, take}
use Rattle.srecord.specs.Layout.{total}
use Rattle.srecord.specs.Line.{line_bytes}
use Rattle.srecord.proofs.line.sum_bytes.Given as goal

abbrev pub invariant-loop-i : goal.invariant-loop-i
invariant-loop-i l = l.sum ≡ total (take l.i (line_bytes l.text)) % 256
