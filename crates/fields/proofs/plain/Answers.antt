-- Eight rows, and the rows from 8 on.
-- Assumes nothing.
use borrow.Author.Rules.{rules}
use Prim.Native.Nat.{ℕ, ◌/◌, ◌%◌}
use mathlib.Core.Path.{refl, ◌∙◌}
use mathlib.Core.List.{[], ◌∷◌}
use lib.ListN.{get_or}
use native.Mathlib.Omega.{arith}
use Rattle.opcodes.specs.declared.Acc.TheVariants.{A, B}
use Rattle.opcodes.specs.declared.Mode.TheVariants.{Direct, Indexed, Extended}
use Rattle.opcodes.proofs.Rows.{down}
use Rattle.fields.specs.OneOperand.{in_accumulator, in_memory}
use Rattle.fields.specs.TwoOperands.{two_operand_place}
use Rattle.fields.specs.Named.{row_one, short_branch, row_three}
use Rattle.fields.specs.Fields.{plain_place}
use Rattle.fields.proofs.Places.{rest}
use Rattle.fields.proofs.plain.Goals as goal

pub returns-in-0 : goal.returns-in-0
unfolding plain_place
returns-in-0 c = rw (c.in_memory.ensures, c.in-0.is)

pub returns-in-1 : goal.returns-in-1
unfolding plain_place
returns-in-1 c = rw (c.row_1.ensures, c.in-1.is)

pub returns-in-2 : goal.returns-in-2
unfolding plain_place
returns-in-2 c = rw (c.short.ensures, c.in-2.is)

pub returns-in-3 : goal.returns-in-3
unfolding plain_place
returns-in-3 c = rw (c.row_3.ensures, c.in-3.is)

pub returns-in-4 : goal.returns-in-4
unfolding plain_place
returns-in-4 c = rw (c.in_accumulator.ensures, c.in-4.is)

pub returns-in-5 : goal.returns-in-5
unfolding plain_place
returns-in-5 c = rw (c.in_accumulator-in-5.ensures, c.in-5.is)

pub returns-in-6 : goal.returns-in-6
unfolding plain_place
returns-in-6 c = rw (c.in_memory-in-6.ensures, c.in-6.is)

pub returns-in-7 : goal.returns-in-7
unfolding plain_place
returns-in-7 c = rw (c.in_memory-in-7.ensures, c.in-7.is)

pub returns-in_default : goal.returns-in_default
unfolding plain_place
returns-in_default c =
    let x = c.args.code in
    let k = x % 16 in
    c.place.ensures
    ∙ rest (λ (row : ℕ). get_or (in_memory Direct k ∷ row_one k ∷ short_branch k ∷ row_three k ∷ in_accumulator A k ∷ in_accumulator B k ∷ in_memory Indexed k ∷ in_memory Extended k ∷ []) row (two_operand_place x)) (two_operand_place x) (down 8) 16 (x / 16) refl (omega arith) (search rules)
