-- By the operation's tag.
-- Assumes nothing.
use mathlib.Core.List.{[], ◌∷◌}
use mathlib.Core.Path.{refl, ◌∙◌}
use Rattle.bus.proofs.Arms.{by-keys, of_memory, memory-taken}
use borrow.Author.Rules.{rules}
use Rattle.bus.proofs.memory_takes.Goals as goal

pub returns-in-OnMemory : goal.returns-in-OnMemory
returns-in-OnMemory c = by-keys of_memory 1 (0 ∷ 10 ∷ 11 ∷ 8 ∷ []) _ (refl, (refl, (refl, (refl, tt)))) (search rules) ∙ memory-taken c.args.op

pub returns-in_default : goal.returns-in_default
returns-in_default c = by-keys of_memory 0 (1 ∷ 2 ∷ 3 ∷ 4 ∷ 5 ∷ 6 ∷ 7 ∷ 9 ∷ []) _ (refl, (refl, (refl, (refl, (refl, (refl, (refl, (refl, tt)))))))) (search rules) ∙ memory-taken c.args.op
