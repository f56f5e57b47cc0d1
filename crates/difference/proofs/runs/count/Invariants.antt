-- The runs that ended before i are counted, and those that end from i on are still to come.
-- Assumes nothing.
use Prim.Native.Nat.{◌+◌, ◌-◌, ◌≤◌}
use mathlib.Core.Path.{◌≡◌}
use lib.ListN.{length}
use Rattle.difference.specs.Differences.{runs_from, runs}
use Rattle.difference.proofs.runs.count.Given as goal

abbrev pub invariant-loop-i : goal.invariant-loop-i
invariant-loop-i l = (l.i ≤ 65536) × ((l.n ≤ l.i) × (l.n + length (runs_from l.a l.b (65536 - l.i) l.first l.i) ≡ length (runs l.a l.b)))
