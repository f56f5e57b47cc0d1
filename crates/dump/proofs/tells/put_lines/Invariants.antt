-- The lines of the first k entries are written, and those from the k-th on are still to come.
-- Assumes nothing.
use Prim.Native.Nat.{◌+◌, ◌-◌, ◌*◌, ◌≤◌}
use mathlib.Core.Path.{◌≡◌}
use lib.ListN.{length}
use lib.Seq.{sets}
use Rattle.dump.specs.Told.{list_lines}
use Rattle.dump.proofs.tells.put_lines.Given as goal

abbrev pub invariant-loop-k : goal.invariant-loop-k
invariant-loop-k l =
    (l.at ≤ 48 * l.k) × ((length l.out ≡ length l.initial.out) × ((l.at + length (list_lines l.list (l.count - l.k) l.k) ≡ length (list_lines l.list l.count 0))
    × (sets l.out l.at (list_lines l.list (l.count - l.k) l.k) ≡ sets l.initial.out 0 (list_lines l.list l.count 0))))
