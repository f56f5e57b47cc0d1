-- No second answer, and no second line at exit, fits.
-- Assumes nothing.
use Rattle.std.proofs.Common.{ℕ, List, sym, ap, ◌∙◌}
use Rattle.answers.proofs.Determined.{Determines}
use Rattle.disassembly.proofs.disassemble

pub disassembles : Determines 2 disassemble.Kinds.ps disassemble.Kinds.r disassemble.Reads.Post
disassembles κs a x y ws vs p q = (p.0 ∙ sym q.0, ap (λ (l : List ℕ). (tt, (tt, (l, tt)))) (p.1 ∙ sym q.1))
