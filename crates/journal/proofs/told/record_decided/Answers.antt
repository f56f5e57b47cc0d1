-- Plain, or by way of the list.
-- Assumes nothing.
use mathlib.Core.Path.{◌≡◌, refl, sym, ap, ◌∙◌}
use Rattle.calls.proofs.Passing.{plain-free}
use Rattle.journal.proofs.told.record_decided.Goals as goal

pub conclude_told-requires : goal.conclude_told-requires
conclude_told-requires c = (sym c.is_plain.ensures ∙ c.if-is_plain.true, c.requires)

pub returns-then-is_plain : goal.returns-then-is_plain
returns-then-is_plain c =
    let a = c.args in
    let e = plain-free a.twin.machine a.settings a.mem.now a.decision (sym c.is_plain.ensures ∙ c.if-is_plain.true) in
    rw e c.conclude_told.ensures

pub returns : goal.returns
returns c = c.record_rest-outcome.ensures
