-- No second count, and no second text, fits the contract of `list`.
-- Assumes nothing.
use mathlib.Core.Path.{sym, ap, ◌∙◌}
use mathlib.Core.List.{List}
use Prim.Native.Nat.{ℕ}
use Rattle.answers.proofs.Determined.{Determines}
use Rattle.listing.proofs.list

pub lists : Determines 2 list.Kinds.ps list.Kinds.r list.Reads.Post
lists κs a x y ws vs p q = (p.0 ∙ sym q.0, ap (λ (l : List ℕ). (tt, (l, tt))) (p.1.0 ∙ sym q.1.0))
