-- The plan, and then the call.
-- Assumes nothing.
use mathlib.Core.Path.{◌≡◌, refl, sym, ap, ◌∙◌}
use Rattle.calls.specs.declared.Plan.{Plan}
use Rattle.journal.proofs.Answers.{outside-so}
use Rattle.journal.proofs.recorded.record_outside.Goals as goal

pub returns : goal.returns
returns c =
    let a = c.args in
    let k = c.record_plan.ensures in
    record { leaves = outside-so a.which a.settings _ _ _ _ (rw c.plan_outside-plan.ensures at k.leaves); typed = k.typed }
