-- `place` reads the row of the high digit at the low one.
-- Assumes nothing.
use borrow.Author.Rules.{rules}
use Prim.Native.Nat.{◌/◌}
use native.Mathlib.Omega.{arith}
use Rattle.opcodes.specs.declared.Page.TheVariants.{Plain}
use Rattle.opcodes.proofs.Rows.{last}
use Rattle.pages.proofs.Reading.{picked}
use Rattle.pages.proofs.plain.place.Goals as goal

pub returns-in-0 : goal.returns-in-0
returns-in-0 c = picked Plain c.args.code c.at_digit.ensures c.row_0.ensures c.in-0.is

pub returns-in-1 : goal.returns-in-1
returns-in-1 c = picked Plain c.args.code c.at_digit-in-1.ensures c.row_1.ensures c.in-1.is

pub returns-in-2 : goal.returns-in-2
returns-in-2 c = picked Plain c.args.code c.at_digit-in-2.ensures c.row_2.ensures c.in-2.is

pub returns-in-3 : goal.returns-in-3
returns-in-3 c = picked Plain c.args.code c.at_digit-in-3.ensures c.row_3.ensures c.in-3.is

pub returns-in-4 : goal.returns-in-4
returns-in-4 c = picked Plain c.args.code c.at_digit-in-4.ensures c.row_4.ensures c.in-4.is

pub returns-in-5 : goal.returns-in-5
returns-in-5 c = picked Plain c.args.code c.at_digit-in-5.ensures c.row_5.ensures c.in-5.is

pub returns-in-6 : goal.returns-in-6
returns-in-6 c = picked Plain c.args.code c.at_digit-in-6.ensures c.row_6.ensures c.in-6.is

pub returns-in-7 : goal.returns-in-7
returns-in-7 c = picked Plain c.args.code c.at_digit-in-7.ensures c.row_7.ensures c.in-7.is

pub returns-in-8 : goal.returns-in-8
returns-in-8 c = picked Plain c.args.code c.at_digit-in-8.ensures c.row_8.ensures c.in-8.is

pub returns-in-9 : goal.returns-in-9
returns-in-9 c = picked Plain c.args.code c.at_digit-in-9.ensures c.row_9.ensures c.in-9.is

pub returns-in-10 : goal.returns-in-10
returns-in-10 c = picked Plain c.args.code c.at_digit-in-10.ensures c.row_a.ensures c.in-10.is

pub returns-in-11 : goal.returns-in-11
returns-in-11 c = picked Plain c.args.code c.at_digit-in-11.ensures c.row_b.ensures c.in-11.is

pub returns-in-12 : goal.returns-in-12
returns-in-12 c = picked Plain c.args.code c.at_digit-in-12.ensures c.row_c.ensures c.in-12.is

pub returns-in-13 : goal.returns-in-13
returns-in-13 c = picked Plain c.args.code c.at_digit-in-13.ensures c.row_d.ensures c.in-13.is

pub returns-in-14 : goal.returns-in-14
returns-in-14 c = picked Plain c.args.code c.at_digit-in-14.ensures c.row_e.ensures c.in-14.is

pub returns-in_default : goal.returns-in_default
returns-in_default c = picked Plain c.args.code c.at_digit-in_default.ensures c.row_f.ensures (last 15 (c.args.code / 16) (omega arith) (search rules))
