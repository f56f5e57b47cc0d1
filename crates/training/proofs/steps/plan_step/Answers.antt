-- 1, then 2, then the instruction.
-- Assumes nothing.
use mathlib.Core.Logic.{inl, inr}
use borrow.Author.Tests.{eq-eqb, ne_eqb}
use Rattle.machine.specs.Fence.{barred}
use Rattle.calls.specs.Steps.{reached, step_plan}
use Rattle.training.proofs.steps.plan_step.Goals as goal

pub returns-then-mem-ne65536 : goal.returns-then-mem-ne65536
unfolding step_plan reached barred
returns-then-mem-ne65536 c = rw (c.refused.ensures, ne_eqb _ 65536 c.if-mem-ne65536.true)

pub returns-in-Running : goal.returns-in-Running
unfolding step_plan reached barred
returns-in-Running c = rw (c.fence.ensures, c.plan_running.ensures, eq-eqb _ 65536 c.if-mem-ne65536.false, c.in-Running.is)

pub returns-in-Cwai : goal.returns-in-Cwai
unfolding step_plan reached barred
returns-in-Cwai c = elim c.in-Cwai.is [
  | inl w ↦ rw (c.refused-in-Cwai.ensures, eq-eqb _ 65536 c.if-mem-ne65536.false, w)
  | inr w ↦ rw (c.refused-in-Cwai.ensures, eq-eqb _ 65536 c.if-mem-ne65536.false, w)
]
