-- Eight turns, one for each bit.
-- Assumes nothing.
use Rattle.std.proofs.Common.{◌∙◌, arith}
use Rattle.stack.proofs.Emptying.{all-pulled}
use Rattle.stack.proofs.pulling.pull_plain.Goals as goal

pub pull_register-requires : goal.pull_register-requires
pull_register-requires c = (omega arith, omega (arith, c.pull_register-other.ensures.0, c.pull_register-y.ensures.0, c.pull_register-x.ensures.0, c.pull_register-dp.ensures.0, c.pull_register-b.ensures.0, c.pull_register-a.ensures.0, c.pull_register-cc.ensures.0, c.requires))

pub returns : goal.returns
returns c =
    let a = c.args in
    all-pulled a.mem.now a.stack a.mask c.pull_register.result
    ∙ (c.pull_register.ensures.1 ∙ (c.pull_register-other.ensures.1 ∙ (c.pull_register-y.ensures.1 ∙ (c.pull_register-x.ensures.1 ∙ (c.pull_register-dp.ensures.1 ∙ (c.pull_register-b.ensures.1 ∙ (c.pull_register-a.ensures.1 ∙ c.pull_register-cc.ensures.1)))))))
