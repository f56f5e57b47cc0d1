-- The sixteen places of `row_1` are those of the manual's rows: each is what its call answers, or none.
-- Assumes nothing.
use mathlib.Core.Path.{refl}
use Rattle.opcodes.specs.Manual.{entry_of}
use Rattle.opcodes.specs.Rows.{row_of}
use Rattle.opcodes.proofs.Rows.{◌∷≡◌}
use Rattle.rows_0_7.proofs.row_1.Goals as goal

pub returns : goal.returns
unfolding entry_of row_of
returns c = refl ∷≡ refl ∷≡ c.registers.ensures ∷≡ c.memory.ensures ∷≡ refl ∷≡ refl ∷≡ c.branch.ensures ∷≡ c.memory-2.ensures ∷≡ refl ∷≡ c.registers-2.ensures ∷≡ c.registers-3.ensures ∷≡ refl ∷≡ c.registers-4.ensures ∷≡ c.registers-5.ensures ∷≡ c.registers-6.ensures ∷≡ c.registers-7.ensures ∷≡ refl
