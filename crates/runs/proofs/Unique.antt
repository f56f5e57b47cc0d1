-- No second answer, and no second memory or journal, fits a public function's contract.
-- Assumes nothing.
use Rattle.std.proofs.Common.{sym, refl, ◌∙◌}
use Rattle.answers.proofs.Determined.{Determines}
use Rattle.runs.proofs
use Rattle.runs.proofs.Reason

pub run : Determines 2 proofs.run.Kinds.ps proofs.run.Kinds.r proofs.run.Reads.Post
run κs a x y ws vs p q =
    (p.0.result ∙ sym q.0.result, λ i. ((p.0.memory-is ∙ sym q.0.memory-is) i, ((p.0.journal-is ∙ sym q.0.journal-is) i, (tt, (tt, (tt, (tt, tt)))))))

pub run-second : Determines 2 proofs.run_second.Kinds.ps proofs.run_second.Kinds.r proofs.run_second.Reads.Post
run-second κs a x y ws vs p q =
    (p.0.result ∙ sym q.0.result, λ i. ((p.0.memory-is ∙ sym q.0.memory-is) i, ((p.0.journal-is ∙ sym q.0.journal-is) i, (tt, (tt, (tt, (tt, tt)))))))

pub reason-number : Determines 0 Reason.number.Kinds.ps Reason.number.Kinds.r Reason.number.Reads.Post
reason-number κs a x y ws vs p q = (p ∙ sym q, refl)
