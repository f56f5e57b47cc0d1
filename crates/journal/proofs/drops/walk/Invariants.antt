-- After so many turns the walk is over so many records, each of which is within the bytes used.
-- Assumes nothing.
use Rattle.std.proofs.Common.{◌≡◌, ◌≤◌, true}
use Rattle.journal.specs.Drops.{reach, walks}
use Rattle.journal.proofs.drops.walk.Given as goal

abbrev pub invariant-loop : goal.invariant-loop
invariant-loop l = record { within : l.at ≤ l.bytes; reached : l.at ≡ reach l.counter l.journal; walked : walks l.counter l.journal l.bytes ≡ true }
