-- `store_lines`: memory is as the lines before `from` leave it, and the lines from there on lead to the same memory.
-- Assumes nothing.
use Rattle.std.proofs.Common.{◌≡◌, ◌-◌, ◌≤◌, length, drop}
use Rattle.srecord.specs.File.{meanings_of, landed}
use Rattle.srecord.proofs.file.store_lines.Given as goal

abbrev pub invariant-loop-from : goal.invariant-loop-from
invariant-loop-from l = (l.from ≤ length l.file) × ((length l.mem ≡ 65536) × (landed (meanings_of (drop l.from l.file)) l.mem ≡ landed (meanings_of l.file) l.initial.mem))

abbrev pub decreases-loop-from : goal.decreases-loop-from
decreases-loop-from l = length l.file - l.from
