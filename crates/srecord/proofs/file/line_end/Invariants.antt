-- `line_end`: no line feed before i, so that the line ends where one that starts at i does.
-- Assumes nothing.
use Rattle.std.proofs.Common.{◌≡◌}
use Rattle.srecord.specs.File.{line_end}
use Rattle.srecord.proofs.file.line_end.Given as goal

abbrev pub invariant-loop-i : goal.invariant-loop-i
invariant-loop-i l = line_end l.file l.i ≡ line_end l.file l.from
