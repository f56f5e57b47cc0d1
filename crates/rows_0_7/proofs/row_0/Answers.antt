-- The sixteen places of `row_0` are those of the manual's rows: each is what its call answers, or none.
-- Assumes nothing.
use mathlib.Core.Path.{refl}
use Rattle.opcodes.specs.Manual.{entry_of}
use Rattle.opcodes.specs.Rows.{row_of}
use Rattle.opcodes.proofs.Rows.{◌∷≡◌}
use Rattle.rows_0_7.proofs.row_0.Goals as goal

pub returns : goal.returns
unfolding entry_of row_of
returns c = c.on_memory.ensures ∷≡ refl ∷≡ refl ∷≡ c.on_memory-2.ensures ∷≡ c.on_memory-3.ensures ∷≡ refl ∷≡ c.on_memory-4.ensures ∷≡ c.on_memory-5.ensures ∷≡ c.on_memory-6.ensures ∷≡ c.on_memory-7.ensures ∷≡ c.on_memory-8.ensures ∷≡ refl ∷≡ c.on_memory-9.ensures ∷≡ c.registers.ensures ∷≡ c.registers-2.ensures ∷≡ c.on_memory-10.ensures ∷≡ refl
