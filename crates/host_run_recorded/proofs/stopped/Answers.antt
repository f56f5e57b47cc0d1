-- The outcome with the counts of the run, and the reason's number.
-- Assumes nothing.
use Rattle.host.specs.Structs.{host_outcome}
use Rattle.host_run_recorded.specs.Runs.{host_stopped}
use Rattle.host_run_recorded.proofs.stopped.Goals as goal

pub returns : goal.returns
unfolding host_outcome host_stopped
returns c = rw (c.number.ensures, c.from-outcome.ensures)
