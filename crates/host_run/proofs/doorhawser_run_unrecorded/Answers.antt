-- Where the numbers are named, the run of a machine; else 64.
-- Assumes nothing.
use mathlib.Core.Path.{sym, ◌∙◌}
use Rattle.host.specs.Numbers.{is_named}
use Rattle.host.specs.Structs.{settings_from, machine_from}
use Rattle.host_run.specs.Runs.{before, running}
use Rattle.host_run.proofs.Laws.{runs, runs-not}
use Rattle.host_run.proofs.doorhawser_run_unrecorded.Goals as goal

pub returns-then-is_named : goal.returns-then-is_named
returns-then-is_named c =
    let a = c.args in
    let e = rw (c.from.ensures, c.from-then-is_named.ensures) at c.run-ran.ensures in
    runs (is_named a.twin a.settings) (running (settings_from a.settings) a.count (before (machine_from a.twin)) a.mem.now) a.twin a.count a.mem.now _ _
    (sym c.is_named.ensures ∙ c.if-is_named.true)
    (rw (c.report_of.ensures, e.0))
    e.1

pub returns : goal.returns
returns c =
    let a = c.args in
    runs-not (is_named a.twin a.settings) (running (settings_from a.settings) a.count (before (machine_from a.twin)) a.mem.now) a.twin a.count a.mem.now _
    (sym c.is_named.ensures ∙ c.if-is_named.false)
    c.not_run.ensures
