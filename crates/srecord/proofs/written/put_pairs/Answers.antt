-- `put_pairs`: the digits of the first i bytes are stored.
-- Assumes nothing.
use Rattle.std.proofs.Common.{length, refl, ap, ◌∙◌, arith, length-set, take_all}
use Rattle.srecord.proofs.Laying.{pairs-more}
use Rattle.srecord.specs.Layout.{pairs}
use Rattle.srecord.proofs.written.put_pairs.Goals as goal

pub loop-i-init : goal.loop-i-init
unfolding pairs
loop-i-init c = (refl, refl)

pub loop-i-preserved : goal.loop-i-preserved
loop-i-preserved c =
    let e = rw c.hex2.ensures at c.put.ensures in
    let l = c.loop-i in
    let a = c.args in
    (ap length e ∙ simp length-set l.invariant.0, e ∙ pairs-more a.at l.i a.list.now a.out.now l.out (omega arith) l.invariant.1)

pub shape_of-out : goal.shape_of-out
shape_of-out c = c.loop-i.invariant.0

pub returns : goal.returns
returns c = c.loop-i.invariant.1 ∙ rw (take_all c.loop-i.i c.args.list.now (omega arith))
