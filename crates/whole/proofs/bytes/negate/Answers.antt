-- NEG is a difference from 0 (`neg-page`).
-- Assumes nothing.
use mathlib.Core.Path.{ap}
use Rattle.registers.specs.Arithmetic.{of_page}
use Rattle.whole.proofs.Pages.{neg-page}
use borrow.Author.Rules.{rules}
use Rattle.whole.proofs.bytes.negate.Goals as goal

pub returns : goal.returns
returns c = let x = c.args in rw (c.out.ensures, c.difference.ensures.value) (ap (of_page x.cc) (neg-page x.cc x.m (search rules)))
