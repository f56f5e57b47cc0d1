-- `add_u16` meets its contract.
-- Assumes nothing.
use Rattle.std.proofs.Common.{◌≡◌, ◌+◌, arith, rules}
use Rattle.registers.proofs.Leaving.{word-sum, carries}
use Rattle.registers.proofs.CCBits.add_u16.Goals as goal

pub returns : goal.returns
returns c =
    let x = c.args in
    let e : x.a + x.b + 0 ≡ x.a + x.b = omega arith in
    let o = c.overflowing_add-result in
    let v = word-sum x.a x.b _ _ _ (search rules) (search rules) c.cast_signed.ensures c.cast_signed-2.ensures c.overflowing_add-overflow.ensures.overflow in
    rw (c.set_zn.ensures, c.set-cv.ensures, v, c.set.ensures, carries (x.a + x.b) 65536 o.result.1 o.ensures.overflow, o.ensures.value, e)
