-- Eleven columns name an operation on a byte; every other column is of words.
-- Assumes nothing.
use mathlib.Core.Path.{refl}
use mathlib.Core.List.{[], ◌∷◌}
use Rattle.fields.specs.declared.two_operands.TwoOperands.TheVariants.{Word}
use Rattle.fields.specs.TwoOperands.{two_operands}
use Rattle.fields.proofs.Places.{rest}
use borrow.Author.Rules.{rules}
use Rattle.fields.proofs.two_operands.operation.Goals as goal

pub returns-in-0 : goal.returns-in-0
unfolding two_operands
returns-in-0 c = rw c.in-0.is

pub returns-in-1 : goal.returns-in-1
unfolding two_operands
returns-in-1 c = rw c.in-1.is

pub returns-in-2 : goal.returns-in-2
unfolding two_operands
returns-in-2 c = rw c.in-2.is

pub returns-in-4 : goal.returns-in-4
unfolding two_operands
returns-in-4 c = rw c.in-4.is

pub returns-in-5 : goal.returns-in-5
unfolding two_operands
returns-in-5 c = rw c.in-5.is

pub returns-in-6 : goal.returns-in-6
unfolding two_operands
returns-in-6 c = rw c.in-6.is

pub returns-in-7 : goal.returns-in-7
unfolding two_operands
returns-in-7 c = rw c.in-7.is

pub returns-in-8 : goal.returns-in-8
unfolding two_operands
returns-in-8 c = rw c.in-8.is

pub returns-in-9 : goal.returns-in-9
unfolding two_operands
returns-in-9 c = rw c.in-9.is

pub returns-in-10 : goal.returns-in-10
unfolding two_operands
returns-in-10 c = rw c.in-10.is

pub returns-in-11 : goal.returns-in-11
unfolding two_operands
returns-in-11 c = rw c.in-11.is

pub returns-in_default : goal.returns-in_default
unfolding two_operands
returns-in_default c = rest two_operands Word (0xb ∷ 0xa ∷ 9 ∷ 8 ∷ 7 ∷ 6 ∷ 5 ∷ 4 ∷ 2 ∷ 1 ∷ 0 ∷ []) 256 c.args.column refl (search rules) (search rules)
