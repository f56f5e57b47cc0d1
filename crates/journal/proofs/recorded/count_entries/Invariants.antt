-- After so many turns the entries of so many writes are counted.
-- Assumes nothing.
use Rattle.std.proofs.Common.{◌≡◌, ℕ, List, length, take}
use Rattle.journal.specs.Recorded.{saved_for}
use Rattle.journal.proofs.recorded.count_entries.Given as goal

abbrev pub invariant-loop-one : goal.invariant-loop-one
invariant-loop-one l = (mem : List ℕ) → l.n ≡ length (saved_for l.ram_top (take l.one-index l.one-items) mem)
