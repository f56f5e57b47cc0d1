-- The invariant: the pieces that are left end where all end.
-- Assumes nothing.
use Prim.Native.Nat.{◌-◌}
use mathlib.Core.Path.{◌≡◌}
use lib.ListN.{length}
use Rattle.runfile.specs.Format.{pieces_at, end_of}
use Rattle.runfile.proofs.pieces_end.Given as goal

abbrev pub invariant-loop-passed : goal.invariant-loop-passed
invariant-loop-passed l = end_of (length l.file) (pieces_at l.file (l.count - l._passed) l.next) ≡ end_of (length l.file) (pieces_at l.file l.count l.at)
