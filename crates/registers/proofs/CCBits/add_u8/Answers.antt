-- `add_u8` meets its contract.
-- Assumes nothing.
use Rattle.std.proofs.Common.{sym, ap, ◌∙◌, rules}
use Rattle.registers.proofs.Pages.{add-page, sum-value, add-after, half-after}
use Rattle.registers.specs.Arithmetic.{of_page}
use Rattle.registers.proofs.CCBits.add_u8.Goals as goal

pub returns : goal.returns
returns c =
    let x = c.args in
    let carry = c.carry_in-c.ensures in
    let v = c.add_v.ensures x.self x.with_carry (sym carry) in
    let h = c.add_h.ensures x.flags x.self x.with_carry (rw carry (sum-value x.self x.a x.b (search rules) (search rules) x.flags x.with_carry)) in
    rw (
      c.set-2.ensures,
      h ∙ sym (half-after x.self x.a x.b (search rules) (search rules) x.flags x.with_carry),
      c.set_zn.ensures,
      c.set-cv.ensures,
      v ∙ sym (add-after x.self x.a x.b (search rules) (search rules) x.flags x.with_carry),
      c.set.ensures,
      carry,
    )
    (ap (of_page x.self) (add-page x.self x.a x.b (search rules) (search rules) x.flags x.with_carry))
