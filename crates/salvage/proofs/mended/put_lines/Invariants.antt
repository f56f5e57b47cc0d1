-- The loop's invariant: what is laid, and then what is left, is the whole (`Laid`).
-- Assumes nothing.
use Prim.Native.Nat.{◌-◌}
use lib.ListN.{length}
use Rattle.salvage.proofs.Laying.{Laid}
use Rattle.salvage.proofs.mended.put_lines.Given as goal

abbrev pub invariant-loop-at : goal.invariant-loop-at
invariant-loop-at l = Laid l.file l.initial.out l.initial.list l.at l.bytes l.listed l.out l.list

abbrev pub decreases-loop-at : goal.decreases-loop-at
decreases-loop-at l = length l.file - l.at.from
