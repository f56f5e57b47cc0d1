-- By the mode's tag.
-- Assumes nothing.
use mathlib.Core.List.{[], ◌∷◌}
use mathlib.Core.Path.{refl, ◌∙◌}
use Rattle.bus.proofs.Arms.{by-keys, of_mode, mode-counts}
use borrow.Author.Rules.{rules}
use Rattle.bus.proofs.operand_count.Goals as goal

pub returns-in-Immediate8 : goal.returns-in-Immediate8
returns-in-Immediate8 c = let a = c.args in by-keys (of_mode a.n) 0 (1 ∷ 2 ∷ []) _ (refl, (refl, tt)) (search rules) ∙ mode-counts a.mode a.n

pub returns-in_default : goal.returns-in_default
returns-in_default c = let a = c.args in by-keys (of_mode a.n) a.n (0 ∷ 3 ∷ 4 ∷ 5 ∷ 6 ∷ 7 ∷ []) _ (refl, (refl, (refl, (refl, (refl, (refl, tt)))))) (search rules) ∙ mode-counts a.mode a.n
