-- No second answer fits a public function's contract.
-- Assumes nothing.
use mathlib.Core.Path.{refl, sym, ◌∙◌}
use Rattle.answers.proofs.Determined.{Determines}
use Rattle.cycles.proofs

pub operand-extra : Determines 0 proofs.operand_extra.Kinds.ps proofs.operand_extra.Kinds.r proofs.operand_extra.Reads.Post
operand-extra κs a x y ws vs p q = (p ∙ sym q, refl)

pub registers-extra : Determines 0 proofs.registers_extra.Kinds.ps proofs.registers_extra.Kinds.r proofs.registers_extra.Reads.Post
registers-extra κs a x y ws vs p q = (p ∙ sym q, refl)

pub memory-extra : Determines 1 proofs.memory_extra.Kinds.ps proofs.memory_extra.Kinds.r proofs.memory_extra.Reads.Post
memory-extra κs a x y ws vs p q = (p ∙ sym q, refl)

pub cost : Determines 0 proofs.cost.Kinds.ps proofs.cost.Kinds.r proofs.cost.Reads.Post
cost κs a x y ws vs p q = (p ∙ sym q, refl)
