-- The plan is carried out.
-- Assumes nothing.
use Rattle.std.proofs.Common.{◌∙◌}
use Rattle.calls.proofs.resets.reset.Goals as goal

pub returns : goal.returns
returns c = (c.carry_out.ensures.0 ∙ rw c.plan_reset-plan.ensures, c.carry_out.ensures.1 ∙ rw c.plan_reset-plan.ensures)
