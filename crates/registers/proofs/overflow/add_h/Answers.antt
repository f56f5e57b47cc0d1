-- `add_h`: the formula is the carry out of the low halves (`sum-h`), in both settings (`half-after`).
-- Assumes nothing.
use Rattle.std.proofs.Common.{◌&&◌, sym, ◌∙◌, rules}
use Rattle.registers.specs.Arithmetic.{carry_in}
use Rattle.registers.specs.ConditionCodes.{flag}
use Rattle.registers.specs.declared.CCBit.TheVariants.{C}
use Rattle.registers.proofs.Formulas.{sum-h}
use Rattle.registers.proofs.Pages.{digit-le, sum-value, half-after}
use Rattle.registers.proofs.overflow.add_h.Goals as goal

pub returns : goal.returns
returns c = λ s cc w e.
    let x = c.args in
    let r = sym e ∙ sum-value cc x.a x.m (search rules) (search rules) s w in
    rw (c.bit-r3.ensures, c.bit-m3.ensures, c.bit-a3.ensures)
    (sum-h x.a x.m (carry_in w cc) x.r (digit-le (w && flag C cc)) r ∙ half-after cc x.a x.m (search rules) (search rules) s w)
