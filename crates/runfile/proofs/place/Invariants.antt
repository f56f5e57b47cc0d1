-- The invariant: the pieces that are left stand in the file, and laid after those that were laid they give what all give.
-- Assumes nothing.
-- one piece, whose end is `end`
use Prim.Native.Nat.{◌-◌, ◌≤◌}
use mathlib.Core.Path.{◌≡◌}
use lib.ListN.{length}
use Rattle.runfile.specs.Format.{pieces_at, end_of, laid_of}
use Rattle.runfile.proofs.place.Given as goal

abbrev pub invariant-loop-passed : goal.invariant-loop-passed
invariant-loop-passed l =
    (end_of (length l.file) (pieces_at l.file (l.count - l._passed) l.next) ≤ length l.file)
    × ((laid_of (pieces_at l.file (l.count - l._passed) l.next) l.mem ≡ laid_of (pieces_at l.file l.count l.at) l.initial.mem)
    × (length l.mem ≡ length l.initial.mem))
