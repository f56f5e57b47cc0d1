-- The sixteen places of `row_b` are those of the manual's rows: each is what its call answers, or none.
-- Assumes nothing.
use mathlib.Core.Path.{refl}
use Rattle.opcodes.specs.Manual.{entry_of}
use Rattle.opcodes.specs.Rows.{row_of}
use Rattle.opcodes.proofs.Rows.{◌∷≡◌}
use Rattle.rows_8_f.proofs.row_b.Goals as goal

pub returns : goal.returns
unfolding entry_of row_of
returns c = c.alu8.ensures ∷≡ c.alu8-2.ensures ∷≡ c.alu8-3.ensures ∷≡ c.registers.ensures ∷≡ c.alu8-4.ensures ∷≡ c.alu8-5.ensures ∷≡ c.alu8-6.ensures ∷≡ c.memory.ensures ∷≡ c.alu8-7.ensures ∷≡ c.alu8-8.ensures ∷≡ c.alu8-9.ensures ∷≡ c.alu8-10.ensures ∷≡ c.compare16.ensures ∷≡ c.memory-2.ensures ∷≡ c.load16.ensures ∷≡ c.store16.ensures ∷≡ refl
