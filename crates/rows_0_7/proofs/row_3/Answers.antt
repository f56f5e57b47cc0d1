-- The sixteen places of `row_3` are those of the manual's rows: each is what its call answers, or none.
-- Assumes nothing.
use mathlib.Core.Path.{refl}
use Rattle.opcodes.specs.Manual.{entry_of}
use Rattle.opcodes.specs.Rows.{row_of}
use Rattle.opcodes.proofs.Rows.{◌∷≡◌}
use Rattle.rows_0_7.proofs.row_3.Goals as goal

pub returns : goal.returns
unfolding entry_of row_of
returns c = c.registers.ensures ∷≡ c.registers-2.ensures ∷≡ c.registers-3.ensures ∷≡ c.registers-4.ensures ∷≡ c.memory.ensures ∷≡ c.memory-2.ensures ∷≡ c.memory-3.ensures ∷≡ c.memory-4.ensures ∷≡ refl ∷≡ c.memory-5.ensures ∷≡ c.registers-5.ensures ∷≡ c.memory-6.ensures ∷≡ c.memory-7.ensures ∷≡ c.registers-6.ensures ∷≡ refl ∷≡ c.memory-8.ensures ∷≡ refl
