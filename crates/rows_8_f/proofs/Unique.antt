-- No second answer fits a public function's contract.
-- Assumes nothing.
use mathlib.Core.Path.{refl, sym, ◌∙◌}
use Rattle.answers.proofs.Determined.{Determines}
use Rattle.rows_8_f.proofs

pub row-8 : Determines 0 proofs.row_8.Kinds.ps proofs.row_8.Kinds.r proofs.row_8.Reads.Post
row-8 κs a x y ws vs p q = (p ∙ sym q, refl)

pub row-9 : Determines 0 proofs.row_9.Kinds.ps proofs.row_9.Kinds.r proofs.row_9.Reads.Post
row-9 κs a x y ws vs p q = (p ∙ sym q, refl)

pub row-a : Determines 0 proofs.row_a.Kinds.ps proofs.row_a.Kinds.r proofs.row_a.Reads.Post
row-a κs a x y ws vs p q = (p ∙ sym q, refl)

pub row-b : Determines 0 proofs.row_b.Kinds.ps proofs.row_b.Kinds.r proofs.row_b.Reads.Post
row-b κs a x y ws vs p q = (p ∙ sym q, refl)

pub row-c : Determines 0 proofs.row_c.Kinds.ps proofs.row_c.Kinds.r proofs.row_c.Reads.Post
row-c κs a x y ws vs p q = (p ∙ sym q, refl)

pub row-d : Determines 0 proofs.row_d.Kinds.ps proofs.row_d.Kinds.r proofs.row_d.Reads.Post
row-d κs a x y ws vs p q = (p ∙ sym q, refl)

pub row-e : Determines 0 proofs.row_e.Kinds.ps proofs.row_e.Kinds.r proofs.row_e.Reads.Post
row-e κs a x y ws vs p q = (p ∙ sym q, refl)

pub row-f : Determines 0 proofs.row_f.Kinds.ps proofs.row_f.Kinds.r proofs.row_f.Reads.Post
row-f κs a x y ws vs p q = (p ∙ sym q, refl)
