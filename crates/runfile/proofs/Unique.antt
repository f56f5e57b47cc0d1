-- No second answer, and no second memory, fits a public function's contract.
-- Assumes nothing.
use mathlib.Core.Path.{refl, sym, ap, ◌∙◌}
use mathlib.Core.List.{List}
use Prim.Native.Nat.{ℕ}
use Rattle.answers.proofs.Determined.{Determines}
use Rattle.runfile.proofs

pub word : Determines 1 proofs.word.Kinds.ps proofs.word.Kinds.r proofs.word.Reads.Post
word κs a x y ws vs p q = (p ∙ sym q, refl)

pub operation-at : Determines 1 proofs.operation_at.Kinds.ps proofs.operation_at.Kinds.r proofs.operation_at.Reads.Post
operation-at κs a x y ws vs p q = (p ∙ sym q, refl)

pub load : Determines 2 proofs.load.Kinds.ps proofs.load.Kinds.r proofs.load.Reads.Post
load κs a x y ws vs p q = (p.0 ∙ sym q.0, ap (λ (l : List ℕ). (l, (tt, tt))) (p.1 ∙ sym q.1))
