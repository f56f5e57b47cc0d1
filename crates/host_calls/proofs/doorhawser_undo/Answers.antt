-- Where the numbers are named, the call on a twin; else 64.
-- Assumes nothing.
use mathlib.Core.Path.{sym, ◌∙◌}
use Rattle.journal.specs.Undos.{undone}
use Rattle.host.specs.Numbers.{is_twin}
use Rattle.host.proofs.Laws.{refuses, passes}
use Rattle.host_calls.proofs.doorhawser_undo.Goals as goal

pub returns-then-is_twin : goal.returns-then-is_twin
returns-then-is_twin c =
    let a = c.args in
    passes (is_twin a.twin) (undone) a.twin a.mem.now a.journal.now _ _ _ _
    (sym c.is_twin.ensures ∙ c.if-is_twin.true)
    (rw c.from.ensures at c.undo.ensures.leaves)
    c.from-then-is_twin.ensures

pub returns : goal.returns
returns c =
    let a = c.args in
    refuses (is_twin a.twin) (undone) a.twin a.mem.now a.journal.now _
    (sym c.is_twin.ensures ∙ c.if-is_twin.false)
    c.unnamed.ensures
