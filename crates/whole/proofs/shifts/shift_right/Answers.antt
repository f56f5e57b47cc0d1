-- LSR and ASR are halves (`shr-page`).
-- Assumes nothing.
use mathlib.Core.Path.{ap}
use mathlib.Core.Bool.{◌&&◌}
use lib.Dec.{leb}
use Rattle.registers.specs.Arithmetic.{of_page}
use Rattle.registers.proofs.Pages.{digit-le}
use Rattle.whole.proofs.Pages.{shr-page}
use borrow.Author.Rules.{rules}
use Rattle.whole.proofs.shifts.shift_right.Goals as goal

pub halve-requires : goal.halve-requires
halve-requires c = digit-le (c.args.keep_sign && leb 0x80 c.args.m)

pub returns : goal.returns
returns c = let x = c.args in rw c.halve.ensures (ap (of_page x.cc) (shr-page x.cc x.m (search rules) x.keep_sign))
