-- Twelve columns name an operation; every other column is empty.
-- Assumes nothing.
use mathlib.Core.Path.{refl}
use mathlib.Core.List.{[], ◌∷◌}
use Rattle.fields.specs.OneOperand.{one_operand}
use Rattle.fields.proofs.Places.{rest}
use Rattle.std.proofs.Common.{rules, None}
use Rattle.fields.proofs.one_operand.operation.Goals as goal

pub returns-in-0 : goal.returns-in-0
unfolding one_operand
returns-in-0 c = rw c.in-0.is

pub returns-in-3 : goal.returns-in-3
unfolding one_operand
returns-in-3 c = rw c.in-3.is

pub returns-in-4 : goal.returns-in-4
unfolding one_operand
returns-in-4 c = rw c.in-4.is

pub returns-in-6 : goal.returns-in-6
unfolding one_operand
returns-in-6 c = rw c.in-6.is

pub returns-in-7 : goal.returns-in-7
unfolding one_operand
returns-in-7 c = rw c.in-7.is

pub returns-in-8 : goal.returns-in-8
unfolding one_operand
returns-in-8 c = rw c.in-8.is

pub returns-in-9 : goal.returns-in-9
unfolding one_operand
returns-in-9 c = rw c.in-9.is

pub returns-in-10 : goal.returns-in-10
unfolding one_operand
returns-in-10 c = rw c.in-10.is

pub returns-in-12 : goal.returns-in-12
unfolding one_operand
returns-in-12 c = rw c.in-12.is

pub returns-in-13 : goal.returns-in-13
unfolding one_operand
returns-in-13 c = rw c.in-13.is

pub returns-in-14 : goal.returns-in-14
unfolding one_operand
returns-in-14 c = rw c.in-14.is

pub returns-in-15 : goal.returns-in-15
unfolding one_operand
returns-in-15 c = rw c.in-15.is

pub returns-in_default : goal.returns-in_default
unfolding one_operand
returns-in_default c = rest one_operand None (0xf ∷ 0xe ∷ 0xd ∷ 0xc ∷ 0xa ∷ 9 ∷ 8 ∷ 7 ∷ 6 ∷ 4 ∷ 3 ∷ 0 ∷ []) 256 c.args.column refl (search rules) (search rules)
