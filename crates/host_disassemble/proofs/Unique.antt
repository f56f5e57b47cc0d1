-- No second answer, and no second line, fits the contract.
-- Assumes nothing.
use Prim.Native.Nat.{ℕ}
use mathlib.Core.Path.{sym, ap, ◌∙◌}
use mathlib.Core.List.{List}
use Rattle.answers.proofs.Determined.{Determines}
use Rattle.host_disassemble.proofs.doorhawser_disassemble

pub disassembles : Determines 2 doorhawser_disassemble.Kinds.ps doorhawser_disassemble.Kinds.r doorhawser_disassemble.Reads.Post
disassembles κs a x y ws vs p q = (p.0 ∙ sym q.0, ap (λ (l : List ℕ). (tt, (tt, (l, tt)))) (p.1 ∙ sym q.1))
