-- Plain, or by the list of writes.
-- Assumes nothing.
use Rattle.std.proofs.Common.{sym, ap, ◌∙◌, rules}
use Rattle.calls.specs.Plans.{carried_out, memory_with}
use Rattle.calls.specs.declared.Plan.{Plan}
use Rattle.calls.proofs.Passing.{plain-free}
use Rattle.calls.proofs.steps.carry.Goals as goal

pub carry_plain-requires : goal.carry_plain-requires
carry_plain-requires c = (search rules, sym c.is_plain.ensures ∙ c.if-is_plain.true)

pub returns-then-is_plain : goal.returns-then-is_plain
returns-then-is_plain c =
    let a = c.args in
    let e = plain-free a.machine a.settings a.mem.now a.decision (sym c.is_plain.ensures ∙ c.if-is_plain.true) in
    let k = c.carry_plain.ensures in
    (k.0 ∙ sym (ap (carried_out a.settings) e), k.1 ∙ sym (ap (λ (p : Plan). memory_with a.settings p a.mem.now) e))

pub returns : goal.returns
returns c = c.carry_list-report.ensures
