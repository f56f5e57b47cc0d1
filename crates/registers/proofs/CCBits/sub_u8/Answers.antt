-- `sub_u8` meets its contract.
-- Assumes nothing.
use Rattle.std.proofs.Common.{◌&&◌, sym, ap, ◌∙◌, arith, rules}
use Rattle.registers.proofs.Pages.{digit-le, sub-page, sub-after}
use Rattle.registers.specs.Arithmetic.{of_page}
use Rattle.registers.specs.declared.CCBit.TheVariants.{C}
use Rattle.registers.specs.ConditionCodes.{flag}
use Rattle.registers.proofs.CCBits.sub_u8.Goals as goal

pub overflow_sub-result : goal.overflow_sub-result
overflow_sub-result c = omega (arith, c.carry_in-c.ensures, digit-le (c.args.with_carry && flag C c.args.self))

pub returns : goal.returns
returns c =
    let x = c.args in
    let carry = c.carry_in-c.ensures in
    let v = c.sub_v.ensures x.self x.with_carry (sym carry) in
    rw (
      c.set_zn.ensures,
      c.set-cv.ensures,
      v ∙ sym (sub-after x.self x.a x.b (search rules) (search rules) x.flags x.with_carry),
      c.set.ensures,
      carry,
    )
    (ap (of_page x.self) (sub-page x.self x.a x.b (search rules) (search rules) x.flags x.with_carry))
