-- No second answer fits a public function's contract.
-- Assumes nothing.
use Rattle.std.proofs.Common.{sym, refl, ◌∙◌}
use Rattle.answers.proofs.Determined.{Determines}
use Rattle.stack.proofs.frames
use Rattle.stack.proofs.pulling
use Rattle.stack.proofs.pushing
use Rattle.stack.proofs

pub bytes_of : Determines 0 pushing.bytes_of.Kinds.ps pushing.bytes_of.Kinds.r pushing.bytes_of.Reads.Post
bytes_of κs a x y ws vs p q = (p ∙ sym q, refl)

pub push : Determines 0 pushing.push.Kinds.ps pushing.push.Kinds.r pushing.push.Reads.Post
push κs a x y ws vs p q = (p ∙ sym q, refl)

pub jump-to-subroutine : Determines 0 pushing.jump_to_subroutine.Kinds.ps pushing.jump_to_subroutine.Kinds.r pushing.jump_to_subroutine.Reads.Post
jump-to-subroutine κs a x y ws vs p q = (p ∙ sym q, refl)

pub pull : Determines 1 pulling.pull.Kinds.ps pulling.pull.Kinds.r pulling.pull.Reads.Post
pull κs a x y ws vs p q = (p ∙ sym q, refl)

pub return-from-interrupt : Determines 1 pulling.return_from_interrupt.Kinds.ps pulling.return_from_interrupt.Kinds.r pulling.return_from_interrupt.Reads.Post
return-from-interrupt κs a x y ws vs p q = (p ∙ sym q, refl)

pub frame : Determines 0 frames.frame.Kinds.ps frames.frame.Kinds.r frames.frame.Reads.Post
frame κs a x y ws vs p q = (p ∙ sym q, refl)

pub pull-registers : Determines 1 pulling.pull_registers.Kinds.ps pulling.pull_registers.Kinds.r pulling.pull_registers.Reads.Post
pull-registers κs a x y ws vs p q = (p ∙ sym q, refl)

pub return-from-subroutine : Determines 1 pulling.return_from_subroutine.Kinds.ps pulling.return_from_subroutine.Kinds.r pulling.return_from_subroutine.Reads.Post
return-from-subroutine κs a x y ws vs p q = (p ∙ sym q, refl)

pub its-bit : Determines 0 proofs.bit.Kinds.ps proofs.bit.Kinds.r proofs.bit.Reads.Post
its-bit κs a x y ws vs p q = (p ∙ sym q, refl)

pub named-by-bit : Determines 0 proofs.named.Kinds.ps proofs.named.Kinds.r proofs.named.Reads.Post
named-by-bit κs a x y ws vs p q = (p ∙ sym q, refl)
