-- The loop's invariant: what the operations passed have left, a text and a state (`Sofar`).
-- Assumes nothing.
use Prim.Native.Nat.{◌-◌, ◌≤◌}
use mathlib.Core.Path.{◌≡◌}
use lib.ListN.{length}
use Rattle.journal.specs.Recorded.{fresh_twin, in_hand}
use Rattle.runfile.specs.Format.{parsed}
use Rattle.player.proofs.Playing.{Sofar, operations_in}
use Rattle.player.proofs.plays.play_all.Given as goal

abbrev pub invariant-loop-at : goal.invariant-loop-at
invariant-loop-at g l =
    ((l.fn.from.operations ≤ l.at) × (l.at ≤ length l.file))
    × (Sofar l.settings (operations_in (parsed l.file)) (in_hand l.initial.mem l.initial.journal fresh_twin) l.initial.out (l.at - l.fn.from.operations) l.used l.out (in_hand l.mem l.journal l.twin)
    × ((length l.out ≡ length l.initial.out)
    × ((length l.mem ≡ length l.initial.mem)
    × (length l.journal ≡ length l.initial.journal))))
