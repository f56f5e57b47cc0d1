-- The loop's invariant: what is told, and then what is left to tell, is the report (`Told`).
-- Assumes nothing.
use Prim.Native.Nat.{◌-◌}
use lib.ListN.{length}
use Rattle.salvage.proofs.Telling.{Told}
use Rattle.salvage.proofs.printed.put_report.Given as goal

abbrev pub invariant-loop-at : goal.invariant-loop-at
invariant-loop-at l = Told l.file l.initial.out l.at l.used l.out

abbrev pub decreases-loop-at : goal.decreases-loop-at
decreases-loop-at l = length l.file - l.at.from
