-- ROR is a half with the carry in front (`ror-page`).
-- Assumes nothing.
use mathlib.Core.Path.{ap}
use Rattle.registers.specs.Arithmetic.{of_page}
use Rattle.whole.proofs.Pages.{ror-page}
use borrow.Author.Rules.{rules}
use Rattle.whole.proofs.shifts.rotate_right.Goals as goal

pub returns : goal.returns
returns c = let x = c.args in rw (c.halve.ensures, c.carry_in.ensures.value) (ap (of_page x.cc) (ror-page x.cc x.m (search rules)))
