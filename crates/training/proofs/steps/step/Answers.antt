-- The plan is carried out.
-- Assumes nothing.
use mathlib.Core.Path.{◌∙◌}
use Rattle.training.proofs.steps.step.Goals as goal

pub returns : goal.returns
returns c =
    let e = c.plan_step-plan.ensures in
    (c.carry_out.ensures.0 ∙ rw e, c.carry_out.ensures.1 ∙ rw e)
