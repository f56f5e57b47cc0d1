-- By the post-byte of an indexed operand.
-- Assumes nothing.
use mathlib.Core.Bool.{true, false}
use mathlib.Core.Path.{◌∙◌}
use Rattle.bus.proofs.Arms.{no_index, chosen}
use borrow.Author.Rules.{rules}
use Rattle.bus.proofs.pointer_count.Goals as goal

pub returns-in-Indexed : goal.returns-in-Indexed
returns-in-Indexed c = chosen _ _ 2 0 c.is_indirect.ensures true c.if-is_indirect.true ∙ rw c.in-Indexed.is

pub returns-in_default : goal.returns-in_default
returns-in_default c = chosen _ _ 2 0 c.is_indirect.ensures false c.if-is_indirect.false ∙ rw c.in-Indexed.is

pub returns-in_default-2 : goal.returns-in_default-2
returns-in_default-2 c = no_index c.args.operand (search rules)
