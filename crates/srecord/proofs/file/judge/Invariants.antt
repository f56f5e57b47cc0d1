-- `judge`: the lines before `from` do not decide, and the answer is that of the lines from there on.
-- Assumes nothing.
use Rattle.std.proofs.Common.{◌≡◌, ◌-◌, ◌≤◌, length, drop}
use Rattle.srecord.specs.File.{meanings_of, judged}
use Rattle.srecord.proofs.file.judge.Given as goal

abbrev pub invariant-loop-from : goal.invariant-loop-from
invariant-loop-from l = (l.from ≤ length l.file) × (judged (meanings_of (drop l.from l.file)) ≡ judged (meanings_of l.file))

abbrev pub decreases-loop-from : goal.decreases-loop-from
decreases-loop-from l = length l.file - l.from
