-- `pull_all`: what is still to be pulled gives, at every turn of the loop, what the whole pull gives.
-- Assumes nothing.
use Rattle.std.proofs.Common.{◌≡◌, sym, refl, ◌∙◌, arith}
use Rattle.stack.proofs.Emptying.{all-pulled, turn-off, turn-on}
use Rattle.stack.proofs.pulling.pull_all.Goals as goal
use Rattle.stack.proofs.pulling.pull_all.Goals.{then-bit, else-bit}

pub loop-k-init : goal.loop-k-init
loop-k-init c = refl

pub loop-k-preserved : goal.loop-k-preserved
loop-k-preserved c =
    let l = c.loop-k in
    let a = c.args in
    elim c.if-bit.branch [
      | then-bit w ↦ rw (w.p-is, w.pull_into-p.ensures, w.named.ensures) (turn-on a.mem.now a.stack a.mask l.k (omega arith) (sym c.bit.ensures ∙ w.if-bit.true) l.p)
      | else-bit w ↦ rw w.p-is (turn-off a.mem.now a.stack a.mask l.k (omega arith) (sym c.bit.ensures ∙ w.if-bit.false) l.p)
    ] ∙ l.invariant

pub returns : goal.returns
returns c =
    let l = c.loop-k in
    let a = c.args in
    let e : l.k ≡ 8 = omega arith in
    all-pulled a.mem.now a.stack a.mask l.p ∙ rw e at l.invariant
