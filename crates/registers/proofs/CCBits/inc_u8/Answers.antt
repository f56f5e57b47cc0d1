-- `inc_u8` meets its contract.
-- Assumes nothing.
use Rattle.std.proofs.Common.{sym, ap, ◌∙◌, rules}
use Rattle.registers.proofs.Pages.{inc-page, inc-after}
use Rattle.registers.specs.Arithmetic.{of_page}
use Rattle.registers.proofs.CCBits.inc_u8.Goals as goal

pub returns : goal.returns
returns c =
    let x = c.args in
    rw (c.set_zn.ensures, c.set.ensures, c.inc_v.ensures x.self ∙ sym (inc-after x.self x.val 0 (search rules) x.flags))
    (ap (of_page x.self) (inc-page x.self x.val 0 (search rules) x.flags))
