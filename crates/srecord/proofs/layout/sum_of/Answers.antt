-- `sum_of`: the sum of the first bytes, modulo 256.
-- Assumes nothing.
use Rattle.std.proofs.Common.{refl, arith}
use Rattle.srecord.proofs.Scan.{sum_more}
use Rattle.srecord.specs.Layout.{total}
use Rattle.srecord.proofs.layout.sum_of.Goals as goal

pub loop-b-init : goal.loop-b-init
unfolding total
loop-b-init c = refl

pub loop-b-preserved : goal.loop-b-preserved
loop-b-preserved c = sum_more c.args.list.now c.loop-b.b-index _ _ (omega arith) c.loop-b.invariant refl
