-- No second answer, output, list or report fits a public function's contract.
-- Assumes nothing.
use mathlib.Core.Path.{sym, ◌∙◌}
use Rattle.answers.proofs.Determined.{Determines}
use Rattle.salvage.proofs

pub salvage : Determines 3 proofs.mended.salvage.Kinds.ps proofs.mended.salvage.Kinds.r proofs.mended.salvage.Reads.Post
salvage κs a x y ws vs p q =
    (p.0 ∙ sym q.0, λ i. (tt, ((p.1.0 ∙ sym q.1.0) i, ((p.1.1 ∙ sym q.1.1) i, tt))))

pub mend : Determines 3 proofs.printed.mend.Kinds.ps proofs.printed.mend.Kinds.r proofs.printed.mend.Reads.Post
mend κs a x y ws vs p q =
    (p.0 ∙ sym q.0, λ i. (tt, ((p.1.0 ∙ sym q.1.0) i, ((p.1.1 ∙ sym q.1.1) i, tt))))
