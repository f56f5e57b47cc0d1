-- `paired`: the characters before the rest are pairs of digits, so that the answer is that of the rest.
-- Assumes nothing.
use Rattle.std.proofs.Common.{◌≡◌, length}
use Rattle.srecord.specs.Layout.{is_paired}
use Rattle.srecord.proofs.layout.paired.Given as goal

abbrev pub invariant-loop-rest : goal.invariant-loop-rest
invariant-loop-rest l = is_paired l.rest ≡ is_paired l.text

abbrev pub decreases-loop-rest : goal.decreases-loop-rest
decreases-loop-rest l = length l.rest
