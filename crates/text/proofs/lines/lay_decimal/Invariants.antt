-- The invariant: the digits after those of what is left are written (`Filled`). The measure is what is left.
-- Assumes nothing.
use Prim.Native.Nat.{◌≤◌}
use Rattle.text.proofs.Filling.{Filled}
use Rattle.text.proofs.lines.lay_decimal.Given as goal

abbrev pub invariant-loop-rest : goal.invariant-loop-rest
invariant-loop-rest l = (l.rest ≤ l.n) × Filled l.initial.out l.at l.n l.out l.rest l.i

abbrev pub decreases-loop-rest : goal.decreases-loop-rest
decreases-loop-rest l = l.rest
