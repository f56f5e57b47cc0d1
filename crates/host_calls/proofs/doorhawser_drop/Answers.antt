-- Where the numbers are named, the call on a twin; else 64.
-- Assumes nothing.
use mathlib.Core.Path.{sym, ◌∙◌}
use Rattle.journal.specs.Drops.{dropped}
use Rattle.host.specs.Numbers.{is_twin}
use Rattle.host.proofs.Laws.{refuses, passes}
use Rattle.host_calls.proofs.doorhawser_drop.Goals as goal

pub returns-then-is_twin : goal.returns-then-is_twin
returns-then-is_twin c = λ memory.
    let a = c.args in
    passes (is_twin a.twin) (dropped a.k) a.twin memory a.journal.now _ _ memory _
    (sym c.is_twin.ensures ∙ c.if-is_twin.true)
    (rw c.from.ensures at (c.drop.ensures memory))
    c.from-then-is_twin.ensures

pub returns : goal.returns
returns c = λ memory.
    let a = c.args in
    refuses (is_twin a.twin) (dropped a.k) a.twin memory a.journal.now _
    (sym c.is_twin.ensures ∙ c.if-is_twin.false)
    c.unnamed.ensures
