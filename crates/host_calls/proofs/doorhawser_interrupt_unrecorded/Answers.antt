-- Where the numbers are named, the call on a machine; else 64.
-- Assumes nothing.
use mathlib.Core.Path.{sym, ◌∙◌}
use Rattle.calls.specs.Interrupts.{interrupt_of, memory_after_interrupt}
use Rattle.host.specs.Numbers.{interrupt_type_of, is_interrupt}
use Rattle.host.specs.Structs.{settings_from, machine_from}
use Rattle.host.proofs.Laws.{refuses-report, passes-report}
use Rattle.host_calls.proofs.doorhawser_interrupt_unrecorded.Goals as goal

pub returns-then-is_interrupt : goal.returns-then-is_interrupt
returns-then-is_interrupt c =
    let a = c.args in
    let e = rw (c.from.ensures, c.from-then-is_interrupt.ensures, c.interrupt_type_of.ensures) at c.interrupt.ensures in
    passes-report (is_interrupt a.twin a.settings a.which) (interrupt_of a.mem.now (machine_from a.twin) (settings_from a.settings) (interrupt_type_of a.which)) (memory_after_interrupt a.mem.now (machine_from a.twin) (settings_from a.settings) (interrupt_type_of a.which)) a.twin a.mem.now _ _
    (sym c.is_interrupt.ensures ∙ c.if-is_interrupt.true)
    (rw e.0 at c.report_of.ensures)
    e.1

pub returns : goal.returns
returns c =
    let a = c.args in
    refuses-report (is_interrupt a.twin a.settings a.which) (interrupt_of a.mem.now (machine_from a.twin) (settings_from a.settings) (interrupt_type_of a.which)) (memory_after_interrupt a.mem.now (machine_from a.twin) (settings_from a.settings) (interrupt_type_of a.which)) a.twin a.mem.now _
    (sym c.is_interrupt.ensures ∙ c.if-is_interrupt.false)
    c.unnamed.ensures
