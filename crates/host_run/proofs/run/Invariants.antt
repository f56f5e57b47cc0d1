-- The invariant: what is left of the run is the whole run; and a refused step leaves one step more, no more than were allowed.
-- Assumes nothing.
use Prim.Native.Nat.{◌+◌, ◌≤◌}
use mathlib.Core.Path.{◌≡◌}
use lib.ListN.{length}
use Rattle.host_run.specs.Runs.{running, uncounted}
use Rattle.host_run.proofs.run.Given as goal

abbrev pub invariant-loop-left : goal.invariant-loop-left
invariant-loop-left l =
    (running l.settings l.count l.initial.last l.initial.mem ≡ running l.settings l.left l.last l.mem) × ((length l.mem ≡ length l.initial.mem) × (l.left + uncounted l.last.answer ≤ l.count))

abbrev pub decreases-loop-left : goal.decreases-loop-left
decreases-loop-left l = l.left
