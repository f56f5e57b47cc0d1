-- No second answer fits a public function's contract.
-- Assumes nothing.
use mathlib.Core.Path.{refl, sym, ◌∙◌}
use Rattle.answers.proofs.Determined.{Determines}
use Rattle.rows_0_7.proofs

pub row-0 : Determines 0 proofs.row_0.Kinds.ps proofs.row_0.Kinds.r proofs.row_0.Reads.Post
row-0 κs a x y ws vs p q = (p ∙ sym q, refl)

pub row-1 : Determines 0 proofs.row_1.Kinds.ps proofs.row_1.Kinds.r proofs.row_1.Reads.Post
row-1 κs a x y ws vs p q = (p ∙ sym q, refl)

pub row-2 : Determines 0 proofs.row_2.Kinds.ps proofs.row_2.Kinds.r proofs.row_2.Reads.Post
row-2 κs a x y ws vs p q = (p ∙ sym q, refl)

pub row-3 : Determines 0 proofs.row_3.Kinds.ps proofs.row_3.Kinds.r proofs.row_3.Reads.Post
row-3 κs a x y ws vs p q = (p ∙ sym q, refl)

pub row-4 : Determines 0 proofs.row_4.Kinds.ps proofs.row_4.Kinds.r proofs.row_4.Reads.Post
row-4 κs a x y ws vs p q = (p ∙ sym q, refl)

pub row-5 : Determines 0 proofs.row_5.Kinds.ps proofs.row_5.Kinds.r proofs.row_5.Reads.Post
row-5 κs a x y ws vs p q = (p ∙ sym q, refl)

pub row-6 : Determines 0 proofs.row_6.Kinds.ps proofs.row_6.Kinds.r proofs.row_6.Reads.Post
row-6 κs a x y ws vs p q = (p ∙ sym q, refl)

pub row-7 : Determines 0 proofs.row_7.Kinds.ps proofs.row_7.Kinds.r proofs.row_7.Reads.Post
row-7 κs a x y ws vs p q = (p ∙ sym q, refl)
