-- No second answer fits a public function's contract.
-- Assumes nothing.
use mathlib.Core.Path.{refl, sym, ◌∙◌}
use Rattle.answers.proofs.Determined.{Determines}
use Rattle.effects.proofs

pub condition : Determines 0 proofs.jumps.condition.Kinds.ps proofs.jumps.condition.Kinds.r proofs.jumps.condition.Reads.Post
condition κs a x y ws vs p q = (p ∙ sym q, refl)

pub evaluate : Determines 1 proofs.evaluate.Kinds.ps proofs.evaluate.Kinds.r proofs.evaluate.Reads.Post
evaluate κs a x y ws vs p q = (p ∙ sym q, refl)
