-- ASL is a sum (`asl-page`).
-- Assumes nothing.
use mathlib.Core.Path.{ap}
use Rattle.registers.specs.Arithmetic.{of_page}
use Rattle.whole.proofs.Pages.{asl-page}
use borrow.Author.Rules.{rules}
use Rattle.whole.proofs.shifts.shift_left.Goals as goal

pub returns : goal.returns
returns c = let x = c.args in rw (c.out.ensures, c.sum.ensures.value) (ap (of_page x.cc) (asl-page x.cc x.m (search rules)))
