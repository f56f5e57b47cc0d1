-- The runs that ended before i are counted, and those that end from i on are still to come.
-- Assumes nothing.
use Prim.Native.Nat.{◌-◌}
use mathlib.Core.Path.{◌≡◌, ◌∙◌}
use native.Mathlib.Omega.{arith}
use lib.Dec.{ltb}
use lib.ListN.{length}
use Rattle.difference.specs.Differences.{runs_from, runs}
use Rattle.difference.proofs.Turns.{one_at_most, up-byte, count-equal, apart-on}
use Rattle.difference.proofs.runs.count.Goals as goal
use Rattle.difference.proofs.runs.count.Goals.{then-x-b, else-x-b}

pub loop-i-init : goal.loop-i-init
unfolding runs
loop-i-init c = (omega arith, (omega arith, omega arith))

pub returns : goal.returns
unfolding runs_from
returns c =
    let l = c.loop-i in
    let z : 65536 - l.i ≡ 0 = omega arith in
    let e : length c.args.a.now ≡ l.i = omega arith in
    rw e (omega (arith, rw z at l.invariant.1.1, up-byte l.first l.i))

pub loop-i-preserved : goal.loop-i-preserved
loop-i-preserved c =
    let l = c.loop-i in
    let a = c.args in
    elim c.if-x-b.branch [
      | then-x-b w ↦ (omega arith, (omega (arith, w.n-is, one_at_most (ltb l.first l.i)), rw (w.n-is, w.first-is) (count-equal a.a.now a.b.now l.first l.i (omega arith) w.if-x-b.true l.n ∙ l.invariant.1.1)))
      | else-x-b w ↦ (omega arith, (omega (arith, w.n-is), rw (w.n-is, w.first-is, apart-on a.a.now a.b.now l.first l.i (omega arith) w.if-x-b.false) l.invariant.1.1))
    ]
