-- What is moved, in its new place.
-- Assumes nothing.
use Rattle.std.proofs.Common.{◌∙◌}
use Rattle.journal.proofs.Walking.{moved-within}
use Rattle.journal.proofs.drops.shift.Goals as goal

pub returns : goal.returns
returns c = c.copy_within.ensures.after ∙ moved-within c.args.journal.now c.args.at c.args.n c.requires
