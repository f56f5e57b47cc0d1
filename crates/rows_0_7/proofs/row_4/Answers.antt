-- The sixteen places of `row_4` are those of the manual's rows: each is what its call answers, or none.
-- Assumes nothing.
use mathlib.Core.Path.{refl}
use Rattle.opcodes.specs.Manual.{entry_of}
use Rattle.opcodes.specs.Rows.{row_of}
use Rattle.opcodes.proofs.Rows.{◌∷≡◌}
use Rattle.rows_0_7.proofs.row_4.Goals as goal

pub returns : goal.returns
unfolding entry_of row_of
returns c = c.on_acc.ensures ∷≡ refl ∷≡ refl ∷≡ c.on_acc-2.ensures ∷≡ c.on_acc-3.ensures ∷≡ refl ∷≡ c.on_acc-4.ensures ∷≡ c.on_acc-5.ensures ∷≡ c.on_acc-6.ensures ∷≡ c.on_acc-7.ensures ∷≡ c.on_acc-8.ensures ∷≡ refl ∷≡ c.on_acc-9.ensures ∷≡ c.registers.ensures ∷≡ refl ∷≡ c.on_acc-10.ensures ∷≡ refl
