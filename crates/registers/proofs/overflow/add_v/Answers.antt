-- `add_v`: by the manual the formula is the signed rule (`sum-v`); as bought the two partial sums are those of the definition.
-- Assumes nothing.
use Rattle.std.proofs.Common.{◌+◌, ◌%◌, ◌&&◌, ◌∙◌, arith, rules}
use Rattle.registers.specs.Arithmetic.{carry_in}
use Rattle.registers.specs.ConditionCodes.{flag}
use Rattle.registers.specs.declared.CCBit.TheVariants.{C}
use Rattle.registers.proofs.Formulas.{sum-v}
use Rattle.registers.proofs.Pages.{digit-le, add-after}
use Rattle.registers.specs.declared.Flags.TheVariants.{Bought, Manual}
use Rattle.registers.proofs.overflow.add_v.Goals as goal

pub returns-in-Manual : goal.returns-in-Manual
returns-in-Manual c = λ cc w e.
    let x = c.args in
    let k = carry_in w cc in
    let r = ((x.a + x.b) % 256 + x.c) % 256 in
    rw (c.in-Manual.is, c.bit-r7.ensures, c.bit-m7.ensures, c.bit-a7.ensures)
    (sum-v x.a x.b k r (search rules) (search rules) (digit-le (w && flag C cc)) (omega (arith, e)) ∙ add-after cc x.a x.b (search rules) (search rules) Manual w)

pub returns-in-Bought : goal.returns-in-Bought
returns-in-Bought c = λ cc w e.
    let x = c.args in
    rw (c.in-Bought.is, c.sum_leaves.ensures, c.sum_leaves-in-Bought.ensures, ← e)
    (add-after cc x.a x.b (search rules) (search rules) Bought w)
