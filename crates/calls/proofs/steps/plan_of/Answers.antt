-- Its list, fenced.
-- Assumes nothing.
use Rattle.std.proofs.Common.{ap, ◌∙◌}
use Rattle.calls.specs.Plans.{fenced}
use Rattle.calls.proofs.steps.plan_of.Goals as goal

pub returns : goal.returns
returns c = let a = c.args in c.fence.ensures ∙ ap (fenced a.settings a.machine) c.plan_free.ensures
