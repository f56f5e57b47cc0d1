-- No second answer, and no second list, fits a contract.
-- Assumes nothing.
use Prim.Native.Nat.{ℕ}
use mathlib.Core.Path.{refl, sym, ap, ◌∙◌}
use mathlib.Core.List.{List}
use Rattle.answers.proofs.Determined.{Determines}
use Rattle.difference.proofs
use Rattle.difference.proofs.entries

-- the result, and the list at exit; the memories are only read
pub compare : Determines 3 proofs.compare.Kinds.ps proofs.compare.Kinds.r proofs.compare.Reads.Post
compare κs a x y ws vs p q = (p.0 ∙ sym q.0, ap (λ (l : List ℕ). (tt, (tt, (tt, (tt, (l, tt)))))) (p.1 ∙ sym q.1))

pub entry-at : Determines 1 entries.entry_at.Kinds.ps entries.entry_at.Kinds.r entries.entry_at.Reads.Post
entry-at κs a x y ws vs p q = (p ∙ sym q, refl)
