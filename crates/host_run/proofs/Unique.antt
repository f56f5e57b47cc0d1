-- No second answer, and no second memory, fits the contract.
-- Assumes nothing.
use Prim.Native.Nat.{ℕ}
use mathlib.Core.Path.{sym, ap, ◌∙◌}
use mathlib.Core.List.{List}
use Rattle.answers.proofs.Determined.{Determines}
use Rattle.host_run.proofs

pub run : Determines 1 proofs.doorhawser_run_unrecorded.Kinds.ps proofs.doorhawser_run_unrecorded.Kinds.r proofs.doorhawser_run_unrecorded.Reads.Post
run κs a x y ws vs p q = (p.result ∙ sym q.result, ap (λ (l : List ℕ). (l, (tt, (tt, (tt, tt))))) (p.memory-is ∙ sym q.memory-is))
