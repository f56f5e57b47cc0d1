-- The entries of the runs that ended before i are written, and those that end from i on are still to come.
-- Assumes nothing.
use Prim.Native.Nat.{◌+◌, ◌-◌, ◌*◌, ◌≤◌}
use mathlib.Core.Path.{◌≡◌}
use lib.ListN.{length}
use lib.Seq.{sets}
use Rattle.difference.specs.Differences.{runs_from, runs}
use Rattle.difference.specs.Compare.{entry_size, laid_out}
use Rattle.difference.proofs.runs.put.Given as goal

abbrev pub invariant-loop-i : goal.invariant-loop-i
invariant-loop-i l =
    (l.i ≤ 65536) × ((l.at ≤ l.from + entry_size * l.i) × ((length l.list ≡ length l.initial.list)
    × (sets l.list l.at (laid_out (runs_from l.a l.b (65536 - l.i) l.first l.i)) ≡ sets l.initial.list l.from (laid_out (runs l.a l.b)))))
