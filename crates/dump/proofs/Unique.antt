-- No second answer, and no second output, memory or text, fits a contract.
-- Assumes nothing.
use Prim.Native.Nat.{ℕ}
use mathlib.Core.Path.{refl, sym, ap, ◌∙◌}
use mathlib.Core.List.{List}
use Rattle.answers.proofs.Determined.{Determines}
use Rattle.dump.proofs
use Rattle.dump.proofs.tells

pub write : Determines 2 proofs.write.Kinds.ps proofs.write.Kinds.r proofs.write.Reads.Post
write κs a x y ws vs p q = (p.0 ∙ sym q.0, ap (λ (l : List ℕ). (tt, (tt, (l, tt)))) (p.1 ∙ sym q.1))

pub is-dump : Determines 1 proofs.is_dump.Kinds.ps proofs.is_dump.Kinds.r proofs.is_dump.Reads.Post
is-dump κs a x y ws vs p q = (p ∙ sym q, refl)

pub read : Determines 2 proofs.read.Kinds.ps proofs.read.Kinds.r proofs.read.Reads.Post
read κs a x y ws vs p q = (p.0 ∙ sym q.0, ap (λ (l : List ℕ). (tt, (l, tt))) (p.1 ∙ sym q.1))

pub tell : Determines 2 tells.tell.Kinds.ps tells.tell.Kinds.r tells.tell.Reads.Post
tell κs a x y ws vs p q = (p.0 ∙ sym q.0, ap (λ (l : List ℕ). (tt, (l, tt))) (p.1 ∙ sym q.1))
