-- Each way keeps the register, adds the weight or takes it off (`Weights`).
-- Assumes nothing.
use mathlib.Core.Path.{sym, ap, ◌∙◌}
use mathlib.Core.Bool.{true, false}
use Rattle.registers.specs.ConditionCodes.{place, coded}
use Rattle.registers.proofs.Masks.{stays-byte, place-lt}
use Rattle.whole.proofs.Weights.{kept, added, taken-off, within}
use borrow.Author.Rules.{rules}
use Rattle.whole.proofs.flags.put.Goals as goal

pub overflow_add-result : goal.overflow_add-result
overflow_add-result c =
    let x = c.args in
    let k = place x.bit in
    let e = sym c.is_set-is.ensures ∙ c.if-is.false in
    record { fits = rw (c.weight-w.ensures, added k x.cc.reg e) (stays-byte k x.cc.reg true (place-lt x.bit) (search rules)) }

pub overflow_sub-result : goal.overflow_sub-result
overflow_sub-result c =
    let x = c.args in
    rw c.weight-w.ensures (within (place x.bit) x.cc.reg (sym c.is_set-is.ensures ∙ c.if-is-2.true))

pub returns-then-is : goal.returns-then-is
returns-then-is c =
    let x = c.args in
    rw c.if-state.true (ap coded (kept (place x.bit) x.cc.reg true (sym c.is_set-is.ensures ∙ c.if-is.true)))

pub returns-else-is : goal.returns-else-is
returns-else-is c =
    let x = c.args in
    rw (c.if-state.true, c.weight-w.ensures) (ap coded (added (place x.bit) x.cc.reg (sym c.is_set-is.ensures ∙ c.if-is.false)))

pub returns-then-is-2 : goal.returns-then-is-2
returns-then-is-2 c =
    let x = c.args in
    rw (c.if-state.false, c.weight-w.ensures) (ap coded (taken-off (place x.bit) x.cc.reg (sym c.is_set-is.ensures ∙ c.if-is-2.true)))

pub returns-else-is-2 : goal.returns-else-is-2
returns-else-is-2 c =
    let x = c.args in
    rw c.if-state.false (ap coded (kept (place x.bit) x.cc.reg false (sym c.is_set-is.ensures ∙ c.if-is-2.false)))
