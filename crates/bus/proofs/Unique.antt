-- No second answer fits a public function's contract.
-- Assumes nothing.
use mathlib.Core.Path.{refl, sym, ◌∙◌}
use Rattle.answers.proofs.Determined.{Determines}
use Rattle.bus.proofs

pub pointer-count : Determines 0 proofs.pointer_count.Kinds.ps proofs.pointer_count.Kinds.r proofs.pointer_count.Reads.Post
pointer-count κs a x y ws vs p q = (p ∙ sym q, refl)

pub operand-count : Determines 0 proofs.operand_count.Kinds.ps proofs.operand_count.Kinds.r proofs.operand_count.Reads.Post
operand-count κs a x y ws vs p q = (p ∙ sym q, refl)

pub registers-take : Determines 0 proofs.registers_take.Kinds.ps proofs.registers_take.Kinds.r proofs.registers_take.Reads.Post
registers-take κs a x y ws vs p q = (p ∙ sym q, refl)

pub memory-takes : Determines 0 proofs.memory_takes.Kinds.ps proofs.memory_takes.Kinds.r proofs.memory_takes.Reads.Post
memory-takes κs a x y ws vs p q = (p ∙ sym q, refl)

pub memory-count : Determines 1 proofs.memory_count.Kinds.ps proofs.memory_count.Kinds.r proofs.memory_count.Reads.Post
memory-count κs a x y ws vs p q = (p ∙ sym q, refl)
