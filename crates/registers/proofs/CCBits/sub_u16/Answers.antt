-- `sub_u16` meets its contract.
-- Assumes nothing.
use Rattle.std.proofs.Common.{◌≡◌, ◌+◌, ◌-◌, ◌%◌, arith, rules}
use Rattle.registers.proofs.Leaving.{word-difference, borrows}
use Rattle.registers.proofs.CCBits.sub_u16.Goals as goal

pub returns : goal.returns
returns c =
    let x = c.args in
    let e : x.b + 0 ≡ x.b = omega arith in
    let o = c.overflowing_sub-result in
    let r : o.result.0 ≡ (x.a + 65536 - x.b) % 65536 = omega (arith, o.ensures.value) in
    let v = word-difference x.a x.b _ _ _ (search rules) (search rules) c.cast_signed.ensures c.cast_signed-2.ensures c.overflowing_sub-overflow.ensures.overflow in
    rw (c.set_zn.ensures, c.set-cv.ensures, v, c.set.ensures, borrows x.a x.b o.result.1 o.ensures.overflow, r, e)
