-- What is stored and reported is what the list of writes says.
-- Assumes nothing.

use Rattle.calls.proofs.plans.carry_out.Goals as goal

pub returns : goal.returns
returns c = (rw (c.store_all.ensures.0, c.how_many.ensures), c.store_all.ensures.1)
