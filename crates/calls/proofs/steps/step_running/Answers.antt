-- What was decided is done.
-- Assumes nothing.
use Rattle.std.proofs.Common.{ap, ◌∙◌}
use Rattle.calls.specs.Plans.{fenced, carried_out, memory_with}
use Rattle.calls.specs.declared.Plan.{Plan}
use Rattle.calls.proofs.steps.step_running.Goals as goal

pub returns : goal.returns
returns c =
    let a = c.args in
    let e = ap (fenced a.settings a.machine) c.decide-decision.ensures in
    (c.carry_unrecorded.ensures.0 ∙ ap (carried_out a.settings) e, c.carry_unrecorded.ensures.1 ∙ ap (λ (p : Plan). memory_with a.settings p a.mem.now) e)
