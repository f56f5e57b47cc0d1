-- By way of the list.
-- Assumes nothing.

use Rattle.journal.proofs.told.record_rest.Goals as goal

pub returns : goal.returns
returns c = c.record_list-outcome.ensures
