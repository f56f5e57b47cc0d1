-- No second number fits.
-- Assumes nothing.
use mathlib.Core.Path.{refl, sym, ◌∙◌}
use denote.RattleType.{RattleType}
use denote.Param.Laws.{Laws}
use Rattle.answers.proofs.Determined.{Determines}
use Rattle.answers.proofs.Refusal
use Rattle.answers.proofs.number

pub refusal-number : Determines 0 Refusal.number.Kinds.ps Refusal.number.Kinds.r Refusal.number.Reads.Post
refusal-number κs a x y ws vs p q = (p ∙ sym q, refl)

-- of an answer with a value of any type
pub answer-number : (T : RattleType) (L : Laws T) → Determines 2 (number.Kinds.ps T L) (number.Kinds.r T L) (number.Reads.Post T L)
answer-number T L κs a x y ws vs p q = (p ∙ sym q, refl)
