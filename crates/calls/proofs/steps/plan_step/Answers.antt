-- 1, then 2, then the instruction.
-- Assumes nothing.
use Rattle.std.proofs.Common.{inl, inr, eq-eqb, ne_eqb}
use Rattle.machine.specs.Fence.{barred}
use Rattle.calls.specs.Steps.{reached, step_plan}
use Rattle.calls.proofs.steps.plan_step.Goals as goal

pub returns-then-mem-ne65536 : goal.returns-then-mem-ne65536
unfolding step_plan reached barred
returns-then-mem-ne65536 c = rw (c.refused.ensures, ne_eqb _ 65536 c.if-mem-ne65536.true)

pub returns-in-Running : goal.returns-in-Running
unfolding step_plan reached barred
returns-in-Running c = rw (c.plan_running.ensures, eq-eqb _ 65536 c.if-mem-ne65536.false, c.in-Running.is)

pub returns-in-Cwai : goal.returns-in-Cwai
unfolding step_plan reached barred
returns-in-Cwai c =
    let f = eq-eqb _ 65536 c.if-mem-ne65536.false in
    elim c.in-Cwai.is [ inl e ↦ rw (c.refused-in-Cwai.ensures, f, e) | inr e ↦ rw (c.refused-in-Cwai.ensures, f, e) ]
