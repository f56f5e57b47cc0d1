-- No second answer, and no second memory or journal, fits a public function's contract.
-- Assumes nothing.
use Prim.Native.Nat.{ℕ}
use mathlib.Core.List.{List}
use mathlib.Core.Path.{refl, sym, ap, ◌∙◌}
use Rattle.answers.proofs.Determined.{Determines}
use Rattle.training.proofs

pub decode : Determines 1 proofs.decoding.decode.Kinds.ps proofs.decoding.decode.Kinds.r proofs.decoding.decode.Reads.Post
decode κs a x y ws vs p q = (p ∙ sym q, refl)

pub plan-step : Determines 1 proofs.steps.plan_step.Kinds.ps proofs.steps.plan_step.Kinds.r proofs.steps.plan_step.Reads.Post
plan-step κs a x y ws vs p q = (p ∙ sym q, refl)

-- the answer, and memory at exit
pub step : Determines 1 proofs.steps.step.Kinds.ps proofs.steps.step.Kinds.r proofs.steps.step.Reads.Post
step κs a x y ws vs p q = (p.0 ∙ sym q.0, ap (λ (l : List ℕ). (l, (tt, (tt, tt)))) (p.1 ∙ sym q.1))

-- the result, and memory and journal at exit
pub record-step : Determines 2 proofs.recorded.record_step.Kinds.ps proofs.recorded.record_step.Kinds.r proofs.recorded.record_step.Reads.Post
record-step κs a x y ws vs p q =
    (p.0.result ∙ sym q.0.result, λ i. ((p.0.memory-is ∙ sym q.0.memory-is) i, ((p.0.journal-is ∙ sym q.0.journal-is) i, (tt, (tt, tt)))))

pub call : Determines 2 proofs.recorded.call.Kinds.ps proofs.recorded.call.Kinds.r proofs.recorded.call.Reads.Post
call κs a x y ws vs p q =
    (p.0.result ∙ sym q.0.result, λ i. ((p.0.memory-is ∙ sym q.0.memory-is) i, ((p.0.journal-is ∙ sym q.0.journal-is) i, (tt, (tt, (tt, tt))))))

-- of both engines
pub step-on :
    Determines 2 proofs.engines.FirstEngine.step.Kinds.ps proofs.engines.FirstEngine.step.Kinds.r proofs.engines.FirstEngine.step.Reads.Post
    × Determines 2 proofs.engines.SecondEngine.step.Kinds.ps proofs.engines.SecondEngine.step.Kinds.r proofs.engines.SecondEngine.step.Reads.Post
step-on = (
  λ κs a x y ws vs p q. (p.0.result ∙ sym q.0.result, λ i. ((p.0.memory-is ∙ sym q.0.memory-is) i, ((p.0.journal-is ∙ sym q.0.journal-is) i, (tt, (tt, tt))))),
  λ κs a x y ws vs p q. (p.0.result ∙ sym q.0.result, λ i. ((p.0.memory-is ∙ sym q.0.memory-is) i, ((p.0.journal-is ∙ sym q.0.journal-is) i, (tt, (tt, tt))))),
)

pub call-on :
    Determines 2 proofs.engines.FirstEngine.call.Kinds.ps proofs.engines.FirstEngine.call.Kinds.r proofs.engines.FirstEngine.call.Reads.Post
    × Determines 2 proofs.engines.SecondEngine.call.Kinds.ps proofs.engines.SecondEngine.call.Kinds.r proofs.engines.SecondEngine.call.Reads.Post
call-on = (
  λ κs a x y ws vs p q. (p.0.result ∙ sym q.0.result, λ i. ((p.0.memory-is ∙ sym q.0.memory-is) i, ((p.0.journal-is ∙ sym q.0.journal-is) i, (tt, (tt, (tt, tt)))))),
  λ κs a x y ws vs p q. (p.0.result ∙ sym q.0.result, λ i. ((p.0.memory-is ∙ sym q.0.memory-is) i, ((p.0.journal-is ∙ sym q.0.journal-is) i, (tt, (tt, (tt, tt)))))),
)
