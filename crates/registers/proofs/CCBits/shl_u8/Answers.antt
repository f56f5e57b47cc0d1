-- `shl_u8` meets its contract.
-- Assumes nothing.
use Rattle.std.proofs.Common.{ap, rules}
use Rattle.registers.proofs.Shifts.{asl-page}
use Rattle.registers.specs.Arithmetic.{of_page}
use Rattle.registers.proofs.CCBits.shl_u8.Goals as goal

pub returns : goal.returns
returns c =
    let x = c.args in
    rw (c.set_zn.ensures, c.set-2.ensures, c.set.ensures) (ap (of_page x.self) (asl-page x.self x.val 0 (search rules)))
