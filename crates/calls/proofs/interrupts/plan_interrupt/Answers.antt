-- 1, then whether it is held off, then the interrupt itself.
-- Assumes nothing.
use Rattle.std.proofs.Common.{◌≡◌, ℕ, false, List, length, sym, ap, ◌∙◌, eq-eqb, ne_eqb}
use Rattle.machine.specs.declared.Effect.{Effect}
use Rattle.machine.specs.declared.Machine.{Machine}
use Rattle.machine.specs.declared.Settings.{Settings}
use Rattle.vectors.specs.declared.table.Vector.{Vector}
use Rattle.calls.specs.declared.InterruptType.{InterruptType}
use Rattle.calls.specs.Interrupts.{vector_of, is_held_off, taken, taken_by, interrupt_plan}
use Rattle.calls.proofs.Decided.{taken-reads}
use Rattle.calls.proofs.interrupts.plan_interrupt.Goals as goal

served : (mem : List ℕ) (m : Machine) (s : Settings) (i : InterruptType) → length mem ≡ 65536 → is_held_off i m ≡ false → interrupt_plan mem m s i ≡ taken_by m 3 (taken m.wait mem s m.regs (vector_of i))
unfolding interrupt_plan
served mem m s i e h =
    rw (eq-eqb (length mem) 65536 e, h)
    (ap (λ (n : ℕ). taken_by m n (taken m.wait mem s m.regs (vector_of i))) (taken-reads mem s m.regs m.wait (vector_of i)))

pub returns-then-mem-ne65536 : goal.returns-then-mem-ne65536
unfolding interrupt_plan
returns-then-mem-ne65536 c = rw (c.refused.ensures, ne_eqb _ 65536 c.if-mem-ne65536.true)

pub returns-then-is_held_off : goal.returns-then-is_held_off
unfolding interrupt_plan
returns-then-is_held_off c = rw (c.accept.ensures, c.with_registers.ensures, c.after_held_off-wait.ensures, eq-eqb _ 65536 c.if-mem-ne65536.false, ← c.is_held_off.ensures, c.if-is_held_off.true)

pub returns : goal.returns
returns c =
    let a = c.args in
    c.finish.ensures
    ∙ (ap (λ (e : Effect). taken_by a.machine 3 e) (c.take-effect.ensures ∙ ap (λ (v : Vector). taken a.machine.wait a.mem.now a.settings a.machine.regs v) c.vector.ensures)
    ∙ sym (served a.mem.now a.machine a.settings a.which c.if-mem-ne65536.false (sym c.is_held_off.ensures ∙ c.if-is_held_off.false)))
