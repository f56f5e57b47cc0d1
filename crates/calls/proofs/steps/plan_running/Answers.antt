-- What was decided, as a plan.
-- Assumes nothing.
use Rattle.std.proofs.Common.{ap, ◌∙◌}
use Rattle.calls.specs.Plans.{fenced}
use Rattle.calls.proofs.steps.plan_running.Goals as goal

pub returns : goal.returns
returns c = let a = c.args in c.plan_of.ensures ∙ ap (fenced a.settings a.machine) c.decide-decision.ensures
