-- No second answer fits a public function's contract.
-- Assumes nothing.
use mathlib.Core.Path.{refl, sym, ◌∙◌}
use Rattle.answers.proofs.Determined.{Determines}
use Rattle.evaluate.proofs
use Rattle.evaluate.proofs.arms

pub evaluate : Determines 1 proofs.evaluate.Kinds.ps proofs.evaluate.Kinds.r proofs.evaluate.Reads.Post
evaluate κs a x y ws vs p q = (p ∙ sym q, refl)

pub evaluate-memory : Determines 1 proofs.evaluate_memory.Kinds.ps proofs.evaluate_memory.Kinds.r proofs.evaluate_memory.Reads.Post
evaluate-memory κs a x y ws vs p q = (p ∙ sym q, refl)

pub registers-arm : Determines 1 arms.registers_arm.Kinds.ps arms.registers_arm.Kinds.r arms.registers_arm.Reads.Post
registers-arm κs a x y ws vs p q = (p ∙ sym q, refl)

pub memory-arms : Determines 1 arms.memory_arms.Kinds.ps arms.memory_arms.Kinds.r arms.memory_arms.Reads.Post
memory-arms κs a x y ws vs p q = (p ∙ sym q, refl)
