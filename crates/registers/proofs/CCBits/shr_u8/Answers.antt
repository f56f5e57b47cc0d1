-- `shr_u8` meets its contract.
-- Assumes nothing.
use Rattle.std.proofs.Common.{◌≡◌, ◌/◌, cond, ap, ◌∙◌, rules}
use Rattle.registers.proofs.Shifts.{shr-page}
use Rattle.registers.specs.Arithmetic.{of_page}
use lib.Bits.{bit_and, bit_or}
use Rattle.registers.proofs.CCBits.shr_u8.Goals as goal
use Rattle.registers.proofs.CCBits.shr_u8.Goals.{then-preserve_sign, else-preserve_sign}

pub returns : goal.returns
returns c =
    let x = c.args in
    let e : c.if-preserve_sign.result ≡ cond x.preserve_sign (bit_or (x.val / 2) (bit_and x.val 0x80)) (x.val / 2) =
    elim c.if-preserve_sign.branch [ then-preserve_sign w ↦ w.result-is ∙ rw w.if-preserve_sign.true | else-preserve_sign w ↦ w.result-is ∙ rw w.if-preserve_sign.false ] in
    rw (c.set_zn.ensures, c.set.ensures) (ap (of_page x.self) (shr-page x.self x.val 0 (search rules) x.preserve_sign c.if-preserve_sign.result e))
