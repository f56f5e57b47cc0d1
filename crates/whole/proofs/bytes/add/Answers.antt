-- The page is that of the setting (`add-page`).
-- Assumes nothing.
use mathlib.Core.Path.{ap}
use Rattle.registers.specs.Arithmetic.{of_page}
use Rattle.whole.proofs.Pages.{add-page}
use Rattle.whole.proofs.bytes.add.Goals as goal

pub returns : goal.returns
returns c =
    let x = c.args in
    rw (c.put.ensures, c.all_flags.ensures, c.sum_by-parts.ensures.value, c.carry_in-c.ensures.value) (ap (of_page x.cc) (add-page x.cc x.a x.b x.flags x.with_carry))
