-- No second array fits the contract of `zeros`.
-- Assumes nothing.
use Rattle.std.proofs.Common.{ℕ, sym, refl, ◌∙◌}
use mir.Syntax.{w64}
use mir.Val.{Fits}
use Rattle.answers.proofs.Determined.{Determines}
use Rattle.streams.specs.Counts.{IsZeros}
use Rattle.streams.proofs.zeros

pub zeros-of : (N : ℕ) (h : Fits w64 N) → Determines 1 (zeros.Kinds.ps N h) (zeros.Kinds.r N h) (zeros.Reads.Post N h)
unfolding IsZeros
zeros-of N h κs a x y ws vs p q = (p.1 ∙ sym q.1, refl)
