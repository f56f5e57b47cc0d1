-- The entries of the fields before the one numbered `what` are written, and those from it on are still to come.
-- Assumes nothing.
use Prim.Native.Nat.{◌+◌, ◌*◌, ◌≤◌}
use mathlib.Core.Path.{◌≡◌}
use lib.ListN.{length, drop}
use lib.Seq.{sets}
use Rattle.machine.specs.Record.{fields}
use Rattle.machine.specs.declared.Machine.{Machine}
use Rattle.difference.specs.Differences.{fields_apart}
use Rattle.difference.specs.Compare.{entry_size, laid_out}
use Rattle.difference.proofs.Turns.{values}
use Rattle.difference.proofs.fields.put.Given as goal

abbrev pub invariant-loop-what : goal.invariant-loop-what
invariant-loop-what l =
    (l.at ≤ entry_size * l.what) × ((length l.list ≡ length l.initial.list) × ((x y : Machine) → l.l ≡ values x → l.r ≡ values y
    → (l.at + entry_size * length (fields_apart (drop l.what fields) x y) ≡ entry_size * length (fields_apart fields x y))
    × (sets l.list l.at (laid_out (fields_apart (drop l.what fields) x y)) ≡ sets l.initial.list 0 (laid_out (fields_apart fields x y)))))
