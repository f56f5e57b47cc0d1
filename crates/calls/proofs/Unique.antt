-- No second answer, and no second memory, fits a public function's contract.
-- Assumes nothing.
use Rattle.std.proofs.Common.{ℕ, List, sym, refl, ap, ◌∙◌}
use Rattle.answers.proofs.Determined.{Determines}
use Rattle.calls.proofs.decisions
use Rattle.calls.proofs.interrupts
use Rattle.calls.proofs.plans
use Rattle.calls.proofs.resets
use Rattle.calls.proofs.steps

pub plan-step : Determines 1 steps.plan_step.Kinds.ps steps.plan_step.Kinds.r steps.plan_step.Reads.Post
plan-step κs a x y ws vs p q = (p ∙ sym q, refl)

pub plan-interrupt : Determines 1 interrupts.plan_interrupt.Kinds.ps interrupts.plan_interrupt.Kinds.r interrupts.plan_interrupt.Reads.Post
plan-interrupt κs a x y ws vs p q = (p ∙ sym q, refl)

pub plan-reset : Determines 1 resets.plan_reset.Kinds.ps resets.plan_reset.Kinds.r resets.plan_reset.Reads.Post
plan-reset κs a x y ws vs p q = (p ∙ sym q, refl)

-- the answer, and memory at exit
pub step : Determines 1 steps.step.Kinds.ps steps.step.Kinds.r steps.step.Reads.Post
step κs a x y ws vs p q = (p.0 ∙ sym q.0, ap (λ (l : List ℕ). (l, (tt, (tt, tt)))) (p.1 ∙ sym q.1))

pub interrupt : Determines 1 interrupts.interrupt.Kinds.ps interrupts.interrupt.Kinds.r interrupts.interrupt.Reads.Post
interrupt κs a x y ws vs p q = (p.0 ∙ sym q.0, ap (λ (l : List ℕ). (l, (tt, (tt, (tt, tt))))) (p.1 ∙ sym q.1))

pub reset : Determines 1 resets.reset.Kinds.ps resets.reset.Kinds.r resets.reset.Reads.Post
reset κs a x y ws vs p q = (p.0 ∙ sym q.0, ap (λ (l : List ℕ). (l, (tt, (tt, tt)))) (p.1 ∙ sym q.1))

pub is_plain : Determines 0 decisions.is_plain.Kinds.ps decisions.is_plain.Kinds.r decisions.is_plain.Reads.Post
is_plain κs a x y ws vs p q = (p ∙ sym q, refl)

pub plan-of : Determines 1 steps.plan_of.Kinds.ps steps.plan_of.Kinds.r steps.plan_of.Reads.Post
plan-of κs a x y ws vs p q = (p ∙ sym q, refl)

pub carry : Determines 1 steps.carry.Kinds.ps steps.carry.Kinds.r steps.carry.Reads.Post
carry κs a x y ws vs p q = (p.0 ∙ sym q.0, ap (λ (l : List ℕ). (l, (tt, (tt, (tt, tt))))) (p.1 ∙ sym q.1))

pub finish : Determines 0 steps.finish.Kinds.ps steps.finish.Kinds.r steps.finish.Reads.Post
finish κs a x y ws vs p q = (p ∙ sym q, refl)

pub refused : Determines 0 plans.refused.Kinds.ps plans.refused.Kinds.r plans.refused.Reads.Post
refused κs a x y ws vs p q = (p ∙ sym q, refl)

pub carry-out : Determines 1 plans.carry_out.Kinds.ps plans.carry_out.Kinds.r plans.carry_out.Reads.Post
carry-out κs a x y ws vs p q = (p.0 ∙ sym q.0, ap (λ (l : List ℕ). (l, (tt, (tt, tt)))) (p.1 ∙ sym q.1))

pub fence : Determines 0 steps.fence.Kinds.ps steps.fence.Kinds.r steps.fence.Reads.Post
fence κs a x y ws vs p q = (p ∙ sym q, refl)
