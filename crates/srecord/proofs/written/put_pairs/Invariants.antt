-- `put_pairs`: the digits of the first i bytes are stored.
-- Assumes nothing.
use Rattle.std.proofs.Common.{◌≡◌, length, take}
use Rattle.srecord.specs.Layout.{pairs}
use lib.Seq.{sets}
use Rattle.srecord.proofs.written.put_pairs.Given as goal

abbrev pub invariant-loop-i : goal.invariant-loop-i
invariant-loop-i l = (length l.out ≡ length l.initial.out) × (l.out ≡ sets l.initial.out l.at (pairs (take l.i l.list)))
