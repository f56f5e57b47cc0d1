-- The invariant: the operations that are left end where all end.
-- Assumes nothing.
use Prim.Native.Nat.{◌-◌}
use mathlib.Core.Path.{◌≡◌}
use lib.ListN.{length}
use Rattle.runfile.specs.Format.{operations_at, end_of}
use Rattle.runfile.proofs.operations_end.Given as goal

abbrev pub invariant-loop-passed : goal.invariant-loop-passed
invariant-loop-passed l = end_of (length l.file) (operations_at l.file (l.count - l._passed) l.next) ≡ end_of (length l.file) (operations_at l.file l.count l.at)
