-- No second answer, and no second dump, memory or list, fits the contracts.
-- Assumes nothing.
use Prim.Native.Nat.{ℕ}
use mathlib.Core.Path.{sym, ap, ◌∙◌}
use mathlib.Core.List.{List}
use Rattle.answers.proofs.Determined.{Determines}
use Rattle.host_compare.proofs.doorhawser_dump
use Rattle.host_compare.proofs.doorhawser_undump
use Rattle.host_compare.proofs.doorhawser_compare

pub dump : Determines 2 doorhawser_dump.Kinds.ps doorhawser_dump.Kinds.r doorhawser_dump.Reads.Post
dump κs a x y ws vs p q = (p.0 ∙ sym q.0, ap (λ (l : List ℕ). (tt, (tt, (l, tt)))) (p.1 ∙ sym q.1))

pub undump : Determines 2 doorhawser_undump.Kinds.ps doorhawser_undump.Kinds.r doorhawser_undump.Reads.Post
undump κs a x y ws vs p q = (p.0 ∙ sym q.0, ap (λ (l : List ℕ). (l, (tt, tt))) (p.1 ∙ sym q.1))

pub compare : Determines 3 doorhawser_compare.Kinds.ps doorhawser_compare.Kinds.r doorhawser_compare.Reads.Post
compare κs a x y ws vs p q = (p.0 ∙ sym q.0, ap (λ (l : List ℕ). (tt, (tt, (tt, (tt, (l, tt)))))) (p.1 ∙ sym q.1))
