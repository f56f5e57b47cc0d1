-- No second answer fits a public function's contract.
-- Assumes nothing.
use mathlib.Core.Path.{refl, sym, ◌∙◌}
use Rattle.answers.proofs.Determined.{Determines}
use Rattle.opcodes.proofs

pub alu8 : Determines 0 proofs.entries.alu8.Kinds.ps proofs.entries.alu8.Kinds.r proofs.entries.alu8.Reads.Post
alu8 κs a x y ws vs p q = (p ∙ sym q, refl)

pub branch : Determines 0 proofs.entries.branch.Kinds.ps proofs.entries.branch.Kinds.r proofs.entries.branch.Reads.Post
branch κs a x y ws vs p q = (p ∙ sym q, refl)

pub compare16 : Determines 0 proofs.entries.compare16.Kinds.ps proofs.entries.compare16.Kinds.r proofs.entries.compare16.Reads.Post
compare16 κs a x y ws vs p q = (p ∙ sym q, refl)

pub load16 : Determines 0 proofs.entries.load16.Kinds.ps proofs.entries.load16.Kinds.r proofs.entries.load16.Reads.Post
load16 κs a x y ws vs p q = (p ∙ sym q, refl)

pub memory : Determines 0 proofs.entries.memory.Kinds.ps proofs.entries.memory.Kinds.r proofs.entries.memory.Reads.Post
memory κs a x y ws vs p q = (p ∙ sym q, refl)

pub on-acc : Determines 0 proofs.entries.on_acc.Kinds.ps proofs.entries.on_acc.Kinds.r proofs.entries.on_acc.Reads.Post
on-acc κs a x y ws vs p q = (p ∙ sym q, refl)

pub on-memory : Determines 0 proofs.entries.on_memory.Kinds.ps proofs.entries.on_memory.Kinds.r proofs.entries.on_memory.Reads.Post
on-memory κs a x y ws vs p q = (p ∙ sym q, refl)

pub registers : Determines 0 proofs.entries.registers.Kinds.ps proofs.entries.registers.Kinds.r proofs.entries.registers.Reads.Post
registers κs a x y ws vs p q = (p ∙ sym q, refl)

pub store16 : Determines 0 proofs.entries.store16.Kinds.ps proofs.entries.store16.Kinds.r proofs.entries.store16.Reads.Post
store16 κs a x y ws vs p q = (p ∙ sym q, refl)

pub at-digit : Determines 0 proofs.row.at_digit.Kinds.ps proofs.row.at_digit.Kinds.r proofs.row.at_digit.Reads.Post
at-digit κs a x y ws vs p q = (p ∙ sym q, refl)
