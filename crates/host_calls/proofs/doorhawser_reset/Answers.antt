-- Where the numbers are named, the call on a twin; else 64.
-- Assumes nothing.
use mathlib.Core.Path.{sym, ◌∙◌}
use Rattle.journal.specs.Recorded.{was_reset}
use Rattle.host.specs.Numbers.{is_named}
use Rattle.host.specs.Structs.{settings_from}
use Rattle.host.proofs.Laws.{refuses, passes}
use Rattle.host_calls.proofs.doorhawser_reset.Goals as goal

pub returns-then-is_named : goal.returns-then-is_named
returns-then-is_named c =
    let a = c.args in
    passes (is_named a.twin a.settings) (was_reset (settings_from a.settings)) a.twin a.mem.now a.journal.now _ _ _ _
    (sym c.is_named.ensures ∙ c.if-is_named.true)
    (rw (c.from.ensures, c.from-then-is_named.ensures) at c.reset.ensures.leaves)
    c.from-then-is_named-2.ensures

pub returns : goal.returns
returns c =
    let a = c.args in
    refuses (is_named a.twin a.settings) (was_reset (settings_from a.settings)) a.twin a.mem.now a.journal.now _
    (sym c.is_named.ensures ∙ c.if-is_named.false)
    c.unnamed.ensures
