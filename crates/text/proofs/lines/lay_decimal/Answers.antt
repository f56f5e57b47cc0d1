-- The invariant: the digits after those of what is left are written (`Filled`). The measure is what is left.
-- Assumes nothing.
use Prim.Native.Nat.{◌/◌}
use native.Mathlib.Omega.{arith}
use lib.ListN.{length-set}
use Rattle.text.proofs.Decimals.{one_more, one-or-more}
use Rattle.text.proofs.Filling.{at_first, same_size, inside, turn, done}
use Rattle.text.proofs.lines.lay_decimal.Goals as goal

pub overflow_add-end : goal.overflow_add-end
overflow_add-end c = omega (arith, c.digits.ensures)

pub overflow_sub-i : goal.overflow_sub-i
overflow_sub-i c = omega (arith, c.digits.ensures, one-or-more c.args.n (omega arith))

pub loop-rest-init : goal.loop-rest-init
loop-rest-init c =
    let a = c.args in
    (omega arith, at_first a.out.now a.at a.n (omega arith) (omega (arith, c.digits.ensures)))

pub bounds-out-i : goal.bounds-out-i
bounds-out-i c =
    let a = c.args in
    let l = c.loop-rest in
    inside a.out.now a.at a.n l.out l.rest l.i l.invariant.1 c.requires

pub overflow_sub-i-in-loop-rest : goal.overflow_sub-i-in-loop-rest
overflow_sub-i-in-loop-rest c = omega (arith, c.loop-rest.invariant.1.place_is, one_more c.loop-rest.rest c.loop-rest-test.true (omega arith), one-or-more (c.loop-rest.rest / 10) (omega arith))

pub loop-rest-preserved : goal.loop-rest-preserved
loop-rest-preserved c =
    let a = c.args in
    let l = c.loop-rest in
    (omega arith, turn a.out.now a.at a.n l.out l.rest l.i l.invariant.1 c.loop-rest-test.true (omega arith))

pub bounds-out-i-2 : goal.bounds-out-i-2
bounds-out-i-2 c =
    let a = c.args in
    let l = c.loop-rest in
    inside a.out.now a.at a.n l.out l.rest l.i l.invariant.1 c.requires

pub shape_of-out : goal.shape_of-out
shape_of-out c =
    let a = c.args in
    let l = c.loop-rest in
    simp length-set (same_size a.out.now a.at a.n l.out l.rest l.i l.invariant.1)

pub returns : goal.returns
returns c =
    let a = c.args in
    let l = c.loop-rest in
    (omega (arith, c.digits.ensures), done a.out.now a.at a.n l.out l.rest l.i l.invariant.1 (omega arith))
