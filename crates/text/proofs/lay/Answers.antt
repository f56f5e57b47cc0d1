-- The invariant: the first i bytes of the part are written.
-- Assumes nothing.
use mathlib.Core.Path.{refl, ap, ◌∙◌}
use native.Mathlib.Omega.{arith}
use lib.ListN.{length, take}
use lib.Seq.{length-sets, take_all}
use Rattle.text.proofs.Stores.{one_more}
use Rattle.text.proofs.lay.Goals as goal

pub loop-i-init : goal.loop-i-init
loop-i-init c = refl

pub bounds-out-at : goal.bounds-out-at
bounds-out-at c =
    let a = c.args in
    let l = c.loop-i in
    omega (arith, ap length l.invariant ∙ length-sets a.out.now a.at (take l.i a.part.now))

pub loop-i-preserved : goal.loop-i-preserved
loop-i-preserved c =
    let a = c.args in
    let l = c.loop-i in
    rw l.invariant (one_more a.out.now a.part.now a.at l.i (omega arith))

pub shape_of-out : goal.shape_of-out
shape_of-out c =
    let a = c.args in
    ap length c.loop-i.invariant ∙ length-sets a.out.now a.at (take c.loop-i.i a.part.now)

pub returns : goal.returns
returns c = rw (take_all c.loop-i.i c.args.part.now (omega arith)) at c.loop-i.invariant
