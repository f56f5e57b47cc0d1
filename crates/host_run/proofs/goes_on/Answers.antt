-- By the answer.
-- Assumes nothing.
use Rattle.host_run.specs.Runs.{goes_on}
use Rattle.host_run.proofs.goes_on.Goals as goal

pub returns-in-Ok : goal.returns-in-Ok
unfolding goes_on
returns-in-Ok c = rw c.in-Ok.is

pub returns-in-Err : goal.returns-in-Err
unfolding goes_on
returns-in-Err c = rw c.in-Err.is
