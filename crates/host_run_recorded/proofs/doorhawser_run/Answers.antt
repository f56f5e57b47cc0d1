-- Where the numbers are named, the run of a twin; else 64.
-- Assumes nothing.
use mathlib.Core.Bool.{◌&&◌}
use Rattle.host.specs.Numbers.{is_named}
use Rattle.host.specs.Structs.{settings_from}
use Rattle.host.specs.Ends.{handed}
use Rattle.runs.specs.Runs.{ran}
use Rattle.host_run_recorded.specs.Runs.{is_stop, stop_from}
use Rattle.host_run_recorded.proofs.Laws.{refuses, passes}
use Rattle.host_run_recorded.proofs.doorhawser_run.Goals as goal

pub returns-then-is_named-is_stop : goal.returns-then-is_named-is_stop
returns-then-is_named-is_stop c =
    let a = c.args in
    passes (is_named a.twin a.settings && is_stop a.stop) (ran (settings_from a.settings) (stop_from a.stop) a.allowance (handed a.mem.now a.journal.now a.twin))
    a.twin a.mem.now a.journal.now _ _ _ _
    (rw (c.is_named.ensures, c.is_stop.ensures) at c.if-is_named-is_stop.true)
    (rw (c.from.ensures, c.from-then-is_named-is_stop.ensures, c.stop_of.ensures) at c.run.ensures.run_leaves)
    c.stopped.ensures

pub returns : goal.returns
returns c =
    let a = c.args in
    refuses (is_named a.twin a.settings && is_stop a.stop) (ran (settings_from a.settings) (stop_from a.stop) a.allowance (handed a.mem.now a.journal.now a.twin))
    a.twin a.mem.now a.journal.now _
    (rw (c.is_named.ensures, c.is_stop.ensures) at c.if-is_named-is_stop.false)
    c.not_started.ensures
