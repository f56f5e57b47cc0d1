-- The page is that of the setting (`sub-page`).
-- Assumes nothing.
use mathlib.Core.Path.{ap}
use Rattle.registers.specs.Arithmetic.{of_page}
use Rattle.whole.proofs.Pages.{sub-page}
use Rattle.whole.proofs.bytes.subtract.Goals as goal

pub returns : goal.returns
returns c =
    let x = c.args in
    rw (c.out.ensures, c.difference_by.ensures.value, c.carry_in-c.ensures.value) (ap (of_page x.cc) (sub-page x.cc x.a x.b x.flags x.with_carry))
