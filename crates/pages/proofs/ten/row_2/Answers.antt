-- The sixteen places of `row_2` are those of the manual's rows: each is what its call answers, or none.
-- Assumes nothing.
use mathlib.Core.Path.{refl}
use Rattle.opcodes.specs.Manual.{entry_of}
use Rattle.opcodes.specs.Rows.{row_of}
use Rattle.opcodes.proofs.Rows.{◌∷≡◌}
use Rattle.pages.proofs.ten.row_2.Goals as goal

pub returns : goal.returns
unfolding entry_of row_of
returns c = refl ∷≡ c.branch.ensures ∷≡ c.branch-2.ensures ∷≡ c.branch-3.ensures ∷≡ c.branch-4.ensures ∷≡ c.branch-5.ensures ∷≡ c.branch-6.ensures ∷≡ c.branch-7.ensures ∷≡ c.branch-8.ensures ∷≡ c.branch-9.ensures ∷≡ c.branch-10.ensures ∷≡ c.branch-11.ensures ∷≡ c.branch-12.ensures ∷≡ c.branch-13.ensures ∷≡ c.branch-14.ensures ∷≡ c.branch-15.ensures ∷≡ refl
