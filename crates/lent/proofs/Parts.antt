-- What the proofs of `step_value` and `undo_value` share: a recorded call's outcome as report and twin.
-- Assumes nothing.
use mathlib.Core.Path.{ap}
use mathlib.Core.List.{List}
use Prim.Native.Nat.{ℕ}
use Rattle.journal.specs.Recorded.{Ended, Leaves}
use Rattle.journal.specs.declared.Outcome.{Outcome}
use Rattle.lent.specs.Lending.{parts, Returns}

pub parted : (o : Outcome) (us vs : List ℕ) (e : Ended) → Leaves o us vs e → Returns (parts o) us vs e
parted o us vs e p = record { result = ap parts p.result; memory-is = p.memory-is; journal-is = p.journal-is }
