-- ROL is a sum with the carry (`rol-page`).
-- Assumes nothing.
use mathlib.Core.Path.{ap}
use Rattle.registers.specs.Arithmetic.{of_page}
use Rattle.whole.proofs.Pages.{rol-page}
use borrow.Author.Rules.{rules}
use Rattle.whole.proofs.shifts.rotate_left.Goals as goal

pub returns : goal.returns
returns c = let x = c.args in rw (c.out.ensures, c.sum.ensures.value, c.carry_in.ensures.value) (ap (of_page x.cc) (rol-page x.cc x.m (search rules)))
