-- No second answer fits a public function's contract.
-- Assumes nothing.
use mathlib.Core.Path.{refl, sym, ◌∙◌}
use Rattle.answers.proofs.Determined.{Determines}
use Rattle.pages.proofs

pub lookup : Determines 0 proofs.table.lookup.Kinds.ps proofs.table.lookup.Kinds.r proofs.table.lookup.Reads.Post
lookup κs a x y ws vs p q = (p ∙ sym q, refl)

pub all : Determines 0 proofs.table.all.Kinds.ps proofs.table.all.Kinds.r proofs.table.all.Reads.Post
all κs a x y ws vs p q = (p ∙ sym q, refl)
