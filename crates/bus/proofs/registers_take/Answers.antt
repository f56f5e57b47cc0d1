-- By the operation's tag.
-- Assumes nothing.
use mathlib.Core.List.{[], ◌∷◌}
use mathlib.Core.Path.{refl, ◌∙◌}
use Rattle.bus.proofs.Arms.{by-keys, of_registers, registers-taken}
use borrow.Author.Rules.{rules}
use denote.Enum.Declared.{tag_of}
use Rattle.opcodes.specs.contracts.RegisterOp as register-ops
use Rattle.bus.proofs.registers_take.Goals as goal

pub returns-in-Alu : goal.returns-in-Alu
returns-in-Alu c = by-keys of_registers 1 (0 ∷ 3 ∷ 16 ∷ 17 ∷ 18 ∷ 19 ∷ []) (tag_of register-ops.the_type c.args.op) (refl, (refl, (refl, (refl, (refl, (refl, tt)))))) (search rules) ∙ registers-taken c.args.op

pub returns-in-Addd : goal.returns-in-Addd
returns-in-Addd c = by-keys of_registers 2 (4 ∷ 5 ∷ 6 ∷ 7 ∷ []) (tag_of register-ops.the_type c.args.op) (refl, (refl, (refl, (refl, tt)))) (search rules) ∙ registers-taken c.args.op

pub returns-in_default : goal.returns-in_default
returns-in_default c = by-keys of_registers 0 (1 ∷ 2 ∷ 8 ∷ 9 ∷ 10 ∷ 11 ∷ 12 ∷ 13 ∷ 14 ∷ 15 ∷ []) (tag_of register-ops.the_type c.args.op) (refl, (refl, (refl, (refl, (refl, (refl, (refl, (refl, (refl, (refl, tt)))))))))) (search rules) ∙ registers-taken c.args.op
