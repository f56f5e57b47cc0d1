-- `place` tells the nine places of the page one by one; no other byte has an instruction.
-- Assumes nothing.
use borrow.Author.Rules.{rules}
use mathlib.Core.List.{[], ◌∷◌}
use mathlib.Core.Path.{refl}
use native.Mathlib.Omega.{arith}
use Rattle.opcodes.specs.Manual.{entry_of}
use Rattle.opcodes.specs.declared.Page.TheVariants.{Eleven}
use Rattle.pages.proofs.Reading.{elsewhere}
use Rattle.pages.proofs.eleven.place.Goals as goal

pub returns-in-63 : goal.returns-in-63
unfolding entry_of
returns-in-63 c = rw (c.memory.ensures, c.in-63.is)

pub returns-in-131 : goal.returns-in-131
unfolding entry_of
returns-in-131 c = rw (c.compare16.ensures, c.in-131.is)

pub returns-in-140 : goal.returns-in-140
unfolding entry_of
returns-in-140 c = rw (c.compare16-in-140.ensures, c.in-140.is)

pub returns-in-147 : goal.returns-in-147
unfolding entry_of
returns-in-147 c = rw (c.compare16-in-147.ensures, c.in-147.is)

pub returns-in-156 : goal.returns-in-156
unfolding entry_of
returns-in-156 c = rw (c.compare16-in-156.ensures, c.in-156.is)

pub returns-in-163 : goal.returns-in-163
unfolding entry_of
returns-in-163 c = rw (c.compare16-in-163.ensures, c.in-163.is)

pub returns-in-172 : goal.returns-in-172
unfolding entry_of
returns-in-172 c = rw (c.compare16-in-172.ensures, c.in-172.is)

pub returns-in-179 : goal.returns-in-179
unfolding entry_of
returns-in-179 c = rw (c.compare16-in-179.ensures, c.in-179.is)

pub returns-in-188 : goal.returns-in-188
unfolding entry_of
returns-in-188 c = rw (c.compare16-in-188.ensures, c.in-188.is)

pub returns-in_default : goal.returns-in_default
unfolding entry_of
returns-in_default c = elsewhere Eleven (0xBC ∷ 0xB3 ∷ 0xAC ∷ 0xA3 ∷ 0x9C ∷ 0x93 ∷ 0x8C ∷ 0x83 ∷ 0x3F ∷ []) c.args.code refl (omega arith) (search rules)
