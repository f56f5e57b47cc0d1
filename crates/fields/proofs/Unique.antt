-- No second answer fits the public function's contract.
-- Assumes nothing.
use mathlib.Core.Path.{refl, sym, ◌∙◌}
use Rattle.answers.proofs.Determined.{Determines}
use Rattle.fields.proofs

pub place : Determines 0 proofs.place.Kinds.ps proofs.place.Kinds.r proofs.place.Reads.Post
place κs a x y ws vs p q = (p ∙ sym q, refl)
