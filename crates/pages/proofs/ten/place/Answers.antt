-- `place` reads the row of the high digit at the low one; the rows that the page does not have are empty.
-- Assumes nothing.
use borrow.Author.Rules.{rules}
use mathlib.Core.List.{[], ◌∷◌}
use mathlib.Core.Path.{refl}
use native.Mathlib.Omega.{arith}
use Rattle.opcodes.specs.Manual.{entry_of}
use Rattle.opcodes.specs.Rows.{row_of}
use Rattle.opcodes.specs.declared.Page.TheVariants.{Ten}
use Rattle.pages.proofs.Reading.{picked, empty}
use Rattle.pages.proofs.ten.place.Goals as goal

pub returns-in-2 : goal.returns-in-2
unfolding entry_of row_of
returns-in-2 c = picked Ten c.args.code c.at_digit.ensures c.row_2.ensures c.in-2.is

pub returns-in-3 : goal.returns-in-3
unfolding entry_of row_of
returns-in-3 c = picked Ten c.args.code c.at_digit-in-3.ensures c.row_3.ensures c.in-3.is

pub returns-in-8 : goal.returns-in-8
unfolding entry_of row_of
returns-in-8 c = picked Ten c.args.code c.at_digit-in-8.ensures c.row_8.ensures c.in-8.is

pub returns-in-9 : goal.returns-in-9
unfolding entry_of row_of
returns-in-9 c = picked Ten c.args.code c.at_digit-in-9.ensures c.row_9.ensures c.in-9.is

pub returns-in-10 : goal.returns-in-10
unfolding entry_of row_of
returns-in-10 c = picked Ten c.args.code c.at_digit-in-10.ensures c.row_a.ensures c.in-10.is

pub returns-in-11 : goal.returns-in-11
unfolding entry_of row_of
returns-in-11 c = picked Ten c.args.code c.at_digit-in-11.ensures c.row_b.ensures c.in-11.is

pub returns-in-12 : goal.returns-in-12
unfolding entry_of row_of
returns-in-12 c = picked Ten c.args.code c.at_digit-in-12.ensures c.row_c.ensures c.in-12.is

pub returns-in-13 : goal.returns-in-13
unfolding entry_of row_of
returns-in-13 c = picked Ten c.args.code c.at_digit-in-13.ensures c.row_d.ensures c.in-13.is

pub returns-in-14 : goal.returns-in-14
unfolding entry_of row_of
returns-in-14 c = picked Ten c.args.code c.at_digit-in-14.ensures c.row_e.ensures c.in-14.is

pub returns-in-15 : goal.returns-in-15
unfolding entry_of row_of
returns-in-15 c = picked Ten c.args.code c.at_digit-in-15.ensures c.row_f.ensures c.in-15.is

pub returns-in_default : goal.returns-in_default
unfolding entry_of row_of
returns-in_default c = empty Ten (0xF ∷ 0xE ∷ 0xD ∷ 0xC ∷ 0xB ∷ 0xA ∷ 0x9 ∷ 0x8 ∷ 0x3 ∷ 0x2 ∷ []) c.args.code refl (omega arith) (search rules)
