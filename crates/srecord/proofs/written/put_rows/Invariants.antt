-- `put_rows`: the text of the first k rows is stored, and `at` is its length.
-- Assumes nothing.
use Rattle.std.proofs.Common.{◌≡◌, length}
use Rattle.srecord.specs.Written.{rows_text}
use lib.Seq.{sets}
use Rattle.srecord.proofs.written.put_rows.Given as goal

abbrev pub invariant-loop-k : goal.invariant-loop-k
invariant-loop-k l = (l.at ≡ length (rows_text l.mem l.k)) × ((length l.out ≡ length l.initial.out) × (l.out ≡ sets l.initial.out 0 (rows_text l.mem l.k)))
