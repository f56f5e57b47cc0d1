-- `ror_u8` meets its contract.
-- Assumes nothing.
use Rattle.std.proofs.Common.{◌≡◌, ◌/◌, cond, sym, ap, ◌∙◌, rules}
use Rattle.registers.proofs.Shifts.{ror-page}
use Rattle.registers.specs.Arithmetic.{of_page}
use Rattle.registers.specs.declared.CCBit.TheVariants.{C}
use Rattle.registers.specs.ConditionCodes.{flag}
use lib.Bits.{bit_or}
use Rattle.registers.proofs.CCBits.ror_u8.Goals as goal
use Rattle.registers.proofs.CCBits.ror_u8.Goals.{then-is_set, else-is_set}

pub returns : goal.returns
returns c =
    let x = c.args in
    let e : c.if-is_set.result ≡ cond (flag C x.self) (bit_or (x.val / 2) 0x80) (x.val / 2) =
    elim c.if-is_set.branch [ then-is_set w ↦ w.result-is ∙ rw (sym c.is_set.ensures ∙ w.if-is_set.true) | else-is_set w ↦ w.result-is ∙ rw (sym c.is_set.ensures ∙ w.if-is_set.false) ] in
    rw (c.set_zn.ensures, c.set.ensures) (ap (of_page x.self) (ror-page x.self x.val 0 (search rules) c.if-is_set.result e))
