-- No second answer, and no second memory or journal, fits the contract.
-- Assumes nothing.
use mathlib.Core.Path.{sym, ◌∙◌}
use Rattle.answers.proofs.Determined.{Determines}
use Rattle.host_step.proofs

pub step : Determines 2 proofs.doorhawser_step.Kinds.ps proofs.doorhawser_step.Kinds.r proofs.doorhawser_step.Reads.Post
step κs a x y ws vs p q =
    (p.result ∙ sym q.result, λ i. ((p.memory-is ∙ sym q.memory-is) i, ((p.journal-is ∙ sym q.journal-is) i, (tt, (tt, tt)))))
