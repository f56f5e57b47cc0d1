-- Where the numbers are named, the call on a machine; else 64.
-- Assumes nothing.
use mathlib.Core.Path.{sym, ◌∙◌}
use Rattle.calls.specs.Steps.{step_of, memory_after_step}
use Rattle.host.specs.Numbers.{is_named}
use Rattle.host.specs.Structs.{settings_from, machine_from}
use Rattle.host.proofs.Laws.{refuses-report, passes-report}
use Rattle.host_step_unrecorded.proofs.doorhawser_step_unrecorded.Goals as goal

pub returns-then-is_named : goal.returns-then-is_named
returns-then-is_named c =
    let a = c.args in
    let e = rw (c.from.ensures, c.from-then-is_named.ensures) at c.step.ensures in
    passes-report (is_named a.twin a.settings) (step_of a.mem.now (machine_from a.twin) (settings_from a.settings)) (memory_after_step a.mem.now (machine_from a.twin) (settings_from a.settings)) a.twin a.mem.now _ _
    (sym c.is_named.ensures ∙ c.if-is_named.true)
    (rw e.0 at c.report_of.ensures)
    e.1

pub returns : goal.returns
returns c =
    let a = c.args in
    refuses-report (is_named a.twin a.settings) (step_of a.mem.now (machine_from a.twin) (settings_from a.settings)) (memory_after_step a.mem.now (machine_from a.twin) (settings_from a.settings)) a.twin a.mem.now _
    (sym c.is_named.ensures ∙ c.if-is_named.false)
    c.unnamed.ensures
