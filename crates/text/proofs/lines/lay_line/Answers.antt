-- The parts of a line, each after the one before it.
-- Assumes nothing.
use mathlib.Core.Path.{◌∙◌}
use native.Mathlib.Omega.{arith}
use lib.ListN.{length-set}
use Rattle.text.proofs.Decimals.{at-most-three, at-most-twenty}
use Rattle.text.proofs.Laying.{end-of-line, laid}
use Rattle.text.proofs.lines.lay_line.Goals as goal

pub lay_decimal-middle-requires : goal.lay_decimal-middle-requires
lay_decimal-middle-requires c = omega (arith, at-most-three c.args.answer (omega arith))

pub lay-requires : goal.lay-requires
lay-requires c =
    omega (arith, c.lay_decimal-middle.auto.out, c.lay_decimal-middle.ensures.0, at-most-three c.args.answer (omega arith))

pub overflow_add-middle : goal.overflow_add-middle
overflow_add-middle c =
    omega (arith, c.lay_decimal-middle.ensures.0, at-most-three c.args.answer (omega arith))

pub lay_decimal-last-requires : goal.lay_decimal-last-requires
lay_decimal-last-requires c =
    let a = c.args in
    omega (arith, c.lay.auto.out, c.lay_decimal-middle.auto.out, c.lay_decimal-middle.ensures.0, at-most-three a.answer (omega arith), at-most-twenty a.cycles)

pub bounds-out-last : goal.bounds-out-last
bounds-out-last c =
    let a = c.args in
    omega (arith, c.lay_decimal-last.auto.out, c.lay.auto.out, c.lay_decimal-middle.auto.out, c.lay_decimal-last.ensures.0, c.lay_decimal-middle.ensures.0, at-most-three a.answer (omega arith), at-most-twenty a.cycles)

pub overflow_add-result : goal.overflow_add-result
overflow_add-result c =
    let a = c.args in
    omega (arith, c.lay_decimal-last.ensures.0, c.lay_decimal-middle.ensures.0, at-most-three a.answer (omega arith), at-most-twenty a.cycles)

pub shape_of-out : goal.shape_of-out
shape_of-out c =
    simp length-set (c.lay_decimal-last.auto.out ∙ c.lay.auto.out ∙ c.lay_decimal-middle.auto.out)

pub returns : goal.returns
returns c =
    let n = c.lay_decimal-last.ensures in
    let a = c.args in
    let m = c.lay_decimal-middle.ensures in (
      end-of-line a.out.now a.at a.answer a.pc a.cc a.cycles m.0 n.0,
      laid a.out.now a.at a.answer a.pc a.cc a.cycles m.0 m.1 c.hex4-p.ensures c.hex2-c.ensures c.lay.ensures n.0 n.1,
    )
