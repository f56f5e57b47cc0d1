-- `sub_v`: by the manual the formula is the signed rule (`difference-v`); as bought the two partial differences are those of the definition.
-- Assumes nothing.
use Rattle.std.proofs.Common.{◌≡◌, ◌+◌, ◌-◌, ◌%◌, ◌≤◌, ◌&&◌, ◌∙◌, arith, rules}
use Rattle.registers.specs.Arithmetic.{carry_in}
use Rattle.registers.specs.ConditionCodes.{flag}
use Rattle.registers.specs.declared.CCBit.TheVariants.{C}
use Rattle.registers.proofs.Formulas.{difference-v}
use Rattle.registers.proofs.Pages.{digit-le, sub-after}
use Rattle.registers.specs.declared.Flags.TheVariants.{Bought, Manual}
use Rattle.registers.proofs.overflow.sub_v.Goals as goal

pub returns-in-Manual : goal.returns-in-Manual
returns-in-Manual c = λ cc w e.
    let x = c.args in
    let k = carry_in w cc in
    let l : k ≤ 1 = digit-le (w && flag C cc) in
    let r = ((x.a + (256 - x.b)) % 256 + (256 - x.c)) % 256 in
    let s : r ≡ (x.a + 256 - (x.b + k)) % 256 = omega (arith, e, l) in
    rw (c.in-Manual.is, c.bit-r7.ensures, c.bit-m7.ensures, c.bit-a7.ensures)
    (difference-v x.a x.b k r (search rules) (search rules) l s ∙ sub-after cc x.a x.b (search rules) (search rules) Manual w)

pub returns-in-Bought : goal.returns-in-Bought
returns-in-Bought c = λ cc w e.
    let x = c.args in
    let k = carry_in w cc in
    let l : k ≤ 1 = digit-le (w && flag C cc) in
    let a1 : (x.a + (256 - k)) % 256 ≡ (x.a + 256 - k) % 256 = omega (arith, l) in
    rw (c.in-Bought.is, c.difference_leaves.ensures, c.difference_leaves-in-Bought.ensures, ← e, a1)
    (sub-after cc x.a x.b (search rules) (search rules) Bought w)
