-- The plan is concluded.
-- Assumes nothing.
use mathlib.Core.Path.{◌≡◌, refl, sym, ap, ◌∙◌}
use Rattle.journal.proofs.told.record_list.Goals as goal

pub returns : goal.returns
returns c = rw c.plan_of-plan.ensures at c.conclude.ensures
