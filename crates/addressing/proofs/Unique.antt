-- No second answer fits a public function's contract.
-- Assumes nothing.
use Rattle.std.proofs.Common.{sym, refl, ◌∙◌}
use Rattle.answers.proofs.Determined.{Determines}
use Rattle.addressing.proofs

pub effective : Determines 1 proofs.effective.Kinds.ps proofs.effective.Kinds.r proofs.effective.Reads.Post
effective κs a x y ws vs p q = (p ∙ sym q, refl)

pub resolve : Determines 1 proofs.resolve.Kinds.ps proofs.resolve.Kinds.r proofs.resolve.Reads.Post
resolve κs a x y ws vs p q = (p ∙ sym q, refl)
