-- The plan, and then the call.
-- Assumes nothing.

use Rattle.training.proofs.recorded.record_step.Goals as goal

pub returns : goal.returns
returns c =
    let k = c.record_plan.ensures in
    record { leaves = rw c.plan_step-plan.ensures at k.leaves; typed = k.typed }
