-- DEC is a difference by 1 (`dec-page`).
-- Assumes nothing.
use mathlib.Core.Path.{ap}
use Rattle.registers.specs.Arithmetic.{of_page}
use Rattle.whole.proofs.Pages.{dec-page}
use borrow.Author.Rules.{rules}
use Rattle.whole.proofs.bytes.decrement.Goals as goal

pub returns : goal.returns
returns c = let x = c.args in rw (c.counted.ensures, c.difference.ensures.value) (ap (of_page x.cc) (dec-page x.cc x.m (search rules) x.flags))
