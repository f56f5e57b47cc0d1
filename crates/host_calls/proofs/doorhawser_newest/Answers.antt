-- None, or up to the end of the bytes used.
-- Assumes nothing.
use mathlib.Core.Path.{ap}
use lib.ListN.{length}
use Rattle.host_calls.proofs.Newest.{no_part, a-part}
use Rattle.host_calls.proofs.doorhawser_newest.Goals as goal

pub returns-then-size-eq0 : goal.returns-then-size-eq0
returns-then-size-eq0 c = no_part _ _ _ _ (ap length c.newest-part.ensures.result_value) c.if-size-eq0.true

pub overflow_sub-at : goal.overflow_sub-at
overflow_sub-at c = (a-part _ _ _ _ (ap length c.newest-part.ensures.result_value) c.if-size-eq0.false).0

pub returns : goal.returns
returns c = (a-part _ _ _ _ (ap length c.newest-part.ensures.result_value) c.if-size-eq0.false).1
