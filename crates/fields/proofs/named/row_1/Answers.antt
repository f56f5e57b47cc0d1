-- Ten names; every other column is empty.
-- Assumes nothing.
use Rattle.std.specs.Prelude.{None}
use mathlib.Core.Path.{refl}
use mathlib.Core.List.{[], ◌∷◌}
use Rattle.fields.specs.Named.{row_one}
use Rattle.fields.proofs.Places.{rest}
use borrow.Author.Rules.{rules}
use Rattle.fields.proofs.named.row_1.Goals as goal

pub returns-in-2 : goal.returns-in-2
unfolding row_one
returns-in-2 c = rw (c.on_registers.ensures, c.in-2.is)

pub returns-in-3 : goal.returns-in-3
unfolding row_one
returns-in-3 c = rw (c.on_memory.ensures, c.in-3.is)

pub returns-in-6 : goal.returns-in-6
unfolding row_one
returns-in-6 c = rw (c.on_registers-in-6.ensures, c.in-6.is)

pub returns-in-7 : goal.returns-in-7
unfolding row_one
returns-in-7 c = rw (c.on_memory-in-7.ensures, c.in-7.is)

pub returns-in-9 : goal.returns-in-9
unfolding row_one
returns-in-9 c = rw (c.on_registers-in-9.ensures, c.in-9.is)

pub returns-in-10 : goal.returns-in-10
unfolding row_one
returns-in-10 c = rw (c.on_registers-in-10.ensures, c.in-10.is)

pub returns-in-12 : goal.returns-in-12
unfolding row_one
returns-in-12 c = rw (c.on_registers-in-12.ensures, c.in-12.is)

pub returns-in-13 : goal.returns-in-13
unfolding row_one
returns-in-13 c = rw (c.on_registers-in-13.ensures, c.in-13.is)

pub returns-in-14 : goal.returns-in-14
unfolding row_one
returns-in-14 c = rw (c.on_registers-in-14.ensures, c.in-14.is)

pub returns-in-15 : goal.returns-in-15
unfolding row_one
returns-in-15 c = rw (c.on_registers-in-15.ensures, c.in-15.is)

pub returns-in_default : goal.returns-in_default
unfolding row_one
returns-in_default c = rest row_one None (0xf ∷ 0xe ∷ 0xd ∷ 0xc ∷ 0xa ∷ 9 ∷ 7 ∷ 6 ∷ 3 ∷ 2 ∷ []) 256 c.args.column refl (search rules) (search rules)
