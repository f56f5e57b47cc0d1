-- 1, then 2, then the instruction.
-- Assumes nothing.
use Rattle.std.proofs.Common.{◌∙◌, inl, inr, eq-eqb, ne_eqb}
use Rattle.memory.specs.Writes.{stored}
use Rattle.machine.specs.Fence.{barred}
use Rattle.calls.specs.Steps.{reached, step_plan}
use Rattle.calls.proofs.steps.step.Goals as goal

pub returns-then-mem-ne65536 : goal.returns-then-mem-ne65536
unfolding step_plan reached stored barred
returns-then-mem-ne65536 c = (c.refuse.ensures c.args.settings ∙ rw (ne_eqb _ 65536 c.if-mem-ne65536.true), rw (ne_eqb _ 65536 c.if-mem-ne65536.true))

pub returns-in-Running : goal.returns-in-Running
unfolding step_plan reached stored barred
returns-in-Running c = (
  c.step_running.ensures.0 ∙ rw (eq-eqb _ 65536 c.if-mem-ne65536.false, c.in-Running.is),
  c.step_running.ensures.1 ∙ rw (eq-eqb _ 65536 c.if-mem-ne65536.false, c.in-Running.is),
)

pub returns-in-Cwai : goal.returns-in-Cwai
unfolding step_plan reached stored barred
returns-in-Cwai c =
    let f = eq-eqb _ 65536 c.if-mem-ne65536.false in
    elim c.in-Cwai.is [
      | inl e ↦ (c.refuse-in-Cwai.ensures c.args.settings ∙ rw (f, e), rw (f, e))
      | inr e ↦ (c.refuse-in-Cwai.ensures c.args.settings ∙ rw (f, e), rw (f, e))
    ]
