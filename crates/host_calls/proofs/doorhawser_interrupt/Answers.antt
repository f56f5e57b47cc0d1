-- Where the numbers are named, the call on a twin; else 64.
-- Assumes nothing.
use mathlib.Core.Path.{sym, ◌∙◌}
use Rattle.journal.specs.Recorded.{interrupted}
use Rattle.host.specs.Numbers.{interrupt_type_of, is_interrupt}
use Rattle.host.specs.Structs.{settings_from}
use Rattle.host.proofs.Laws.{refuses, passes}
use Rattle.host_calls.proofs.doorhawser_interrupt.Goals as goal

pub returns-then-is_interrupt : goal.returns-then-is_interrupt
returns-then-is_interrupt c =
    let a = c.args in
    passes (is_interrupt a.twin a.settings a.which) (interrupted (settings_from a.settings) (interrupt_type_of a.which)) a.twin a.mem.now a.journal.now _ _ _ _
    (sym c.is_interrupt.ensures ∙ c.if-is_interrupt.true)
    (rw (c.from.ensures, c.from-then-is_interrupt.ensures, c.interrupt_type_of.ensures) at c.interrupt.ensures.leaves)
    c.from-then-is_interrupt-2.ensures

pub returns : goal.returns
returns c =
    let a = c.args in
    refuses (is_interrupt a.twin a.settings a.which) (interrupted (settings_from a.settings) (interrupt_type_of a.which)) a.twin a.mem.now a.journal.now _
    (sym c.is_interrupt.ensures ∙ c.if-is_interrupt.false)
    c.unnamed.ensures
