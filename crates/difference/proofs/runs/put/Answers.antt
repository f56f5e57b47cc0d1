-- The entries of the runs that ended before i are written, and those that end from i on are still to come.
-- Assumes nothing.
use Prim.Native.Nat.{◌-◌}
use mathlib.Core.Path.{◌≡◌, refl, ap, ◌∙◌}
use native.Mathlib.Omega.{arith}
use lib.Dec.{ltb}
use lib.ListN.{length}
use lib.Seq.{length-sets}
use Rattle.difference.specs.Differences.{run_up_to, runs_from, runs}
use Rattle.difference.specs.Compare.{laid_out}
use Rattle.difference.proofs.Turns.{one_at_most, up-byte, put-equal, apart-on}
use Rattle.difference.proofs.runs.put.Goals as goal
use Rattle.difference.proofs.runs.put.Goals.{then-x-b, else-x-b}

pub loop-i-init : goal.loop-i-init
unfolding runs
loop-i-init c = (omega arith, (omega arith, (refl, refl)))

pub returns : goal.returns
unfolding runs_from
returns c =
    let l = c.loop-i in
    let z : 65536 - l.i ≡ 0 = omega arith in
    let e : length c.args.a.now ≡ l.i = omega arith in
    rw e at c.put_one.ensures.1 ∙ rw z at l.invariant.1.1.1

pub loop-i-preserved : goal.loop-i-preserved
loop-i-preserved c =
    let l = c.loop-i in
    let a = c.args in
    elim c.if-x-b.branch [
      | then-x-b w ↦
          (let list = w.list-is ∙ w.put_one-at.ensures.1 in
          let at = w.at-is ∙ w.put_one-at.ensures.0 in (
            omega arith,
            (
              omega (arith, at, up-byte l.first l.i, one_at_most (ltb l.first l.i)),
              (
                ap length list ∙ length-sets l.list l.at (laid_out (run_up_to l.first l.i)) ∙ l.invariant.1.1.0,
                rw (list, at, w.first-is) (put-equal a.a.now a.b.now l.first l.i (omega arith) w.if-x-b.true l.at l.list ∙ l.invariant.1.1.1),
              ),
            ),
          ))
      | else-x-b w ↦
          (omega arith, (omega (arith, w.at-is), (ap length w.list-is ∙ l.invariant.1.1.0, rw (w.list-is, w.at-is, w.first-is, apart-on a.a.now a.b.now l.first l.i (omega arith) w.if-x-b.false) l.invariant.1.1.1)))
    ]
