-- `rows_length`: 75 characters for each row of the first k that is not all zero.
-- Assumes nothing.
use Rattle.std.proofs.Common.{◌≡◌, ◌*◌, ◌≤◌, length}
use Rattle.srecord.specs.Written.{rows_text}
use Rattle.srecord.proofs.written.rows_length.Given as goal

abbrev pub invariant-loop-k : goal.invariant-loop-k
invariant-loop-k l = (l.n ≤ 75 * l.k) × (l.n ≡ length (rows_text l.mem l.k))
