-- After so many turns the entries of so many writes are laid.
-- Assumes nothing.
use Rattle.std.proofs.Common.{◌≡◌, length, take}
use Rattle.std.proofs.lemmas.List.Edits.{sets}
use Rattle.journal.specs.Record.{entries, entries_at}
use Rattle.journal.specs.Recorded.{saved_for}
use Rattle.journal.proofs.recorded.save_all.Given as goal

abbrev pub invariant-loop-one : goal.invariant-loop-one
invariant-loop-one l =
    (l.n ≡ length (saved_for l.ram_top (take l.one-index l.one-items) l.mem))
    × (l.rest ≡ sets l.initial.rest entries_at (entries (saved_for l.ram_top (take l.one-index l.one-items) l.mem)))
