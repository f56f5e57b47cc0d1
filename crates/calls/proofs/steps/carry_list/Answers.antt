-- The plan is carried out.
-- Assumes nothing.
use Rattle.std.proofs.Common.{ap, ◌∙◌}
use Rattle.calls.specs.Plans.{carried_out, memory_with}
use Rattle.calls.specs.declared.Plan.{Plan}
use Rattle.calls.proofs.steps.carry_list.Goals as goal

pub returns : goal.returns
returns c =
    let a = c.args in
    let e = c.plan_of-plan.ensures in
    (c.carry_out.ensures.0 ∙ ap (carried_out a.settings) e, c.carry_out.ensures.1 ∙ ap (λ (p : Plan). memory_with a.settings p a.mem.now) e)
