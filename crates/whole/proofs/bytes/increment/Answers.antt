-- INC is a sum with 1 (`inc-page`).
-- Assumes nothing.
use mathlib.Core.Path.{ap}
use Rattle.registers.specs.Arithmetic.{of_page}
use Rattle.whole.proofs.Pages.{inc-page}
use borrow.Author.Rules.{rules}
use Rattle.whole.proofs.bytes.increment.Goals as goal

pub returns : goal.returns
returns c = let x = c.args in rw (c.counted.ensures, c.sum.ensures.value) (ap (of_page x.cc) (inc-page x.cc x.m (search rules) x.flags))
