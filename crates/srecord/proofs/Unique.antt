-- No second answer, memory or output fits a public function's contract.
-- Assumes nothing.
use Rattle.std.proofs.Common.{ℕ, List, sym, refl, ap, ◌∙◌}
use Rattle.answers.proofs.Determined.{Determines}
use Rattle.srecord.proofs

pub line-of : Determines 1 proofs.line.line_of.Kinds.ps proofs.line.line_of.Kinds.r proofs.line.line_of.Reads.Post
line-of κs a x y ws vs p q = (p ∙ sym q, refl)

pub line-end : Determines 1 proofs.file.line_end.Kinds.ps proofs.file.line_end.Kinds.r proofs.file.line_end.Reads.Post
line-end κs a x y ws vs p q = (p ∙ sym q, refl)

-- the answer, and memory at exit
pub read : Determines 2 proofs.file.read.Kinds.ps proofs.file.read.Kinds.r proofs.file.read.Reads.Post
read κs a x y ws vs p q = (p.0 ∙ sym q.0, ap (λ (l : List ℕ). (l, (tt, tt))) (p.1 ∙ sym q.1))

-- the answer, and the output at exit
pub write : Determines 2 proofs.written.write.Kinds.ps proofs.written.write.Kinds.r proofs.written.write.Reads.Post
write κs a x y ws vs p q = (p.0 ∙ sym q.0, ap (λ (l : List ℕ). (tt, (tt, (l, tt)))) (p.1 ∙ sym q.1))
