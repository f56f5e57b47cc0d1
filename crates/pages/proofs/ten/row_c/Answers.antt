-- The sixteen places of `row_c` are those of the manual's rows: each is what its call answers, or none.
-- Assumes nothing.
use mathlib.Core.Path.{refl}
use Rattle.opcodes.specs.Manual.{entry_of}
use Rattle.opcodes.specs.Rows.{row_of}
use Rattle.opcodes.proofs.Rows.{◌∷≡◌}
use Rattle.pages.proofs.ten.row_c.Goals as goal

pub returns : goal.returns
unfolding entry_of row_of
returns c = refl ∷≡ refl ∷≡ refl ∷≡ refl ∷≡ refl ∷≡ refl ∷≡ refl ∷≡ refl ∷≡ refl ∷≡ refl ∷≡ refl ∷≡ refl ∷≡ refl ∷≡ refl ∷≡ c.load16.ensures ∷≡ refl ∷≡ refl
