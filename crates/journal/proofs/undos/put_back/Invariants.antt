-- After k turns the last k of the n entries are put back.
-- Assumes nothing.
use Rattle.std.proofs.Common.{◌≡◌, ◌+◌, ◌-◌, ◌*◌, drop}
use Rattle.journal.specs.Record.{entries_at, entry_length, read_entries}
use Rattle.journal.specs.Undos.{put_back}
use Rattle.journal.proofs.undos.put_back.Given as goal

abbrev pub invariant-loop-k : goal.invariant-loop-k
invariant-loop-k l = l.mem ≡ put_back l.initial.mem (read_entries l.k (drop (entries_at + (l.n - l.k) * entry_length) l.r))
